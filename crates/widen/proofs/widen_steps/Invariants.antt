-- `widen::widen_steps` meets its contract: before each step those so far are written.
-- Assumes nothing.
use Rattle.std.proofs.Common.{◌≡◌, length}
use Rattle.model.specs.Edition.{first_edition, long_reads}
use Rattle.model.specs.Bytes.{overwrite}
use Rattle.widen.proofs.Steps.{written}
use Rattle.widen.proofs.widen_steps.Given as goal

abbrev pub invariant-loop-i : goal.invariant-loop-i
invariant-loop-i l =
    (length l.out ≡ length l.initial.out) × (l.out ≡ overwrite l.initial.out l.at (written first_edition long_reads l.s l.from l.i))
