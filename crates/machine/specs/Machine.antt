-- The machine of a plan.
use Rattle.std.specs.Prelude.{◌≡◌}
use Rattle.plan.specs.declared.tasks.Plan.{Plan}
use Rattle.policy.specs.View.{RulesOf}
use Rattle.machine.specs.declared.Machine.{Machine}

-- its rules and its table
pub record MachineOf (p : Plan) (m : Machine) : Type 0 where
  pub rules : RulesOf p m.rules
  pub next : m.next ≡ p.next
