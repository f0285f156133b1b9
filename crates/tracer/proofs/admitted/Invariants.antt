-- Before each label the plan admits the run exactly when it admits the rest from here.
use Rattle.std.proofs.Common.{◌≡◌, ℕ, ◌≤◌, ◌<◌, List, length, drop}
use Rattle.model.specs.Limits.{max_states}
use Rattle.model.specs.Plan.{Plan}
use Rattle.model.specs.Schedule.{admits, admits_from}
use Rattle.plan.specs.View.{arcs_in}
use Rattle.tracer.proofs.admitted.Given as goal

-- the labels before a place are admitted, and lead to a state
pub record Reached (next labels : List ℕ) (state i : ℕ) : Type 0 where
  pub inside : i ≤ length labels
  pub fits : state < max_states
  pub rest : (P : Plan) → P.arcs ≡ arcs_in next → admits P labels ≡ admits_from P (drop i labels) state

abbrev pub invariant-loop-label : goal.invariant-loop-label
invariant-loop-label l = Reached l.next l.labels l.state l.label-index
