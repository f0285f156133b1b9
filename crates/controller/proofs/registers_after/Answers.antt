-- `controller::registers_after` meets its contract: the registers of the block that the writes leave.
-- Assumes nothing.
use Rattle.std.proofs.Common.{ap, ◌∙◌}
use Rattle.model.specs.Controller as model
use Rattle.policy.specs.View.{tasks_in}
use Rattle.controller.proofs.registers_after.Goals as goal

pub run_writes-block-requires : goal.run_writes-block-requires
run_writes-block-requires c = c.args.controller.now.ready

pub returns : goal.returns
returns c P part =
    c.registers.ensures (tasks_in c.args.controller.now.machine.rules) ∙ ap model.registers (c.run_writes-block.ensures.is P part)
