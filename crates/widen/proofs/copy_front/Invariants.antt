-- The bytes so far are copied.
use Rattle.std.proofs.Common.{◌≡◌, length}
use Rattle.model.specs.Bytes.{overwrite, part}
use Rattle.widen.proofs.copy_front.Given as goal

abbrev pub invariant-loop-i : goal.invariant-loop-i
invariant-loop-i l = (l.out ≡ overwrite l.initial.out 0 (part l.s 0 l.i)) × (length l.out ≡ length l.initial.out)
