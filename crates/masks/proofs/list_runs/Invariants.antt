-- `masks::list_runs` meets its contract: so far the clear ones of the first k masks are listed.
-- Assumes nothing.
use mathlib.Core.Path.{◌≡◌}
use Prim.Native.Nat.{◌+◌, ◌*◌, ◌^◌, ◌≤◌}
use Rattle.masks.specs.Clear.{clear_runs, Lists}
use Rattle.masks.proofs.list_runs.Given as goal

abbrev pub invariant-loop-k : goal.invariant-loop-k
invariant-loop-k l =
    (l.m ≡ l.first * 2 ^ l._k) × (l.next ≤ l.from + l._k) × Lists (clear_runs l.pattern l.first l._k) l.count l.from l.initial.list l.list l.next
