-- `policy::rules_of` meets its contract. Assumes nothing.
use Rattle.std.proofs.Common.{refl, ◌∙◌, take, length-take-le, arith}
use Rattle.plan.specs.View.{task_view, plan_of}
use Rattle.std.proofs.Math.ListN.{length-map}
use Rattle.policy.proofs.Plans.{tasks_range}
use Rattle.policy.proofs.rules_of.Goals as goal

pub returns : goal.returns
returns c =
    let plan = c.args.plan in
    record {
      ruled = record { tasks = tasks_range (plan_of plan) c.requires; size = length-map (take plan.tasks.count plan.tasks.list) task_view ∙ length-take-le plan.tasks.count plan.tasks.list (omega (arith, c.well_formed)); left = c.left_table-left.ensures; hold = c.hold_table-hold.ensures };
      tasks = refl;
      policy = refl;
    }
