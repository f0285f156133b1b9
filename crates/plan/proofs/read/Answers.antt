-- `plan::read` meets its contract: it reads in the long_read edition.
-- Assumes nothing.
use mathlib.Core.Path.{ap}
use mathlib.Core.Logic.{inr}
use Rattle.model.specs.Edition.{Edition}
use Rattle.plan.proofs.read.Goals as goal

pub read_in-requires : goal.read_in-requires
read_in-requires c = inr (ap (λ (e : Edition). e.value_width) c.long_reads.ensures)

pub returns : goal.returns
returns c = rw c.long_reads.ensures at c.read_in.ensures
