-- `controller::part_of` meets its contract: the plan's machine, and no jobs.
-- Assumes nothing.
use Rattle.controller.proofs.Parts.{fresh-ready, fresh-part}
use Rattle.controller.proofs.part_of.Goals as goal

pub invariant_of-result : goal.invariant_of-result
invariant_of-result c = record { ready = fresh-ready _ _ c.fresh-block.ensures }

pub returns : goal.returns
returns c = fresh-part _ _ c.of-machine.ensures c.fresh-block.ensures
