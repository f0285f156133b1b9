-- `machine::Machine::of` meets its contract: a sound plan's table leads to states. Assumes nothing.
use Rattle.std.proofs.Common.{refl}
use Rattle.plan.specs.View.{plan_of}
use Rattle.policy.proofs.Plans.{states_fit_lem}
use Rattle.machine.proofs.Machine.of.Goals as goal

pub invariant_of-result : goal.invariant_of-result
invariant_of-result c =
    let plan = c.args.plan in
    record { ruled = c.rules_of-rules.ensures.ruled; states = states_fit_lem (plan_of plan) c.requires plan.next refl }
