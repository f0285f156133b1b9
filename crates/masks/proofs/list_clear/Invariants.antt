-- `masks::list_clear` meets its contract: so far the clear ones of the masks gone through are listed.
-- Assumes nothing.
use Prim.Native.Nat.{◌+◌, ◌-◌, ◌≤◌}
use Rattle.masks.specs.Clear.{clear_in, Lists}
use Rattle.masks.proofs.list_clear.Given as goal

abbrev pub invariant-loop-mask : goal.invariant-loop-mask
invariant-loop-mask l =
    (l.next ≤ l.from + l.mask-index) × Lists (clear_in l.pattern l.at (l.at + l.mask-index)) (l.end - l.at) l.from l.initial.list l.list l.next
