-- `controller::write` meets its contract: nothing but the block is changed.
-- Assumes nothing.
use Rattle.controller.specs.View.{write_of}
use Rattle.controller.proofs.After.{step-writes}
use Rattle.controller.proofs.write.Goals as goal

pub returns : goal.returns
returns c = step-writes c.args.controller.now (write_of c.args.byte c.args.value) _ _ _ c.step-told.ensures
