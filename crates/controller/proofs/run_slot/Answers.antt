-- `controller::run_slot` meets its contract: the label is admitted or not, and the slot is the rule's.
-- Assumes nothing.
use Rattle.std.proofs.Common.{ℕ, ◌+◌, ◌%◌, ap, ◌∙◌}
use Rattle.model.specs.Controller.{gain_limit}
use Rattle.controller.proofs.Slots.{stays, goes}
use Rattle.controller.proofs.run_slot.Goals as goal

pub returns-in_default : goal.returns-in_default
returns-in_default c = stays _ _ _ c.requires c.in_default.ensures

pub returns : goal.returns
returns c =
    let m = c.args.machine.now in
    goes _ _ _ c.requires m.ruled m.states _ c.in-Some.ensures c.slot-done.result c.slot-done.ensures.slotted _ _ _
    c.status_of-status.ensures c.task_number-ran.ensures
    (c.wrapping_add_u32-gain.ensures.value ∙ ap (λ (n : ℕ). (c.args.block.gain + n) % gain_limit) c.from.ensures)
