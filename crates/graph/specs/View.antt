-- What a node stands for.
use Rattle.std.specs.Prelude.{◌≡◌, List, ℕ}
use Rattle.model.specs.Graph as model
use Rattle.model.specs.Plan.{Plan, IsSound}
use Rattle.plan.specs.View.{arcs_in}
use Rattle.policy.specs.View.{Tasks, jobs_of, tasks_in, PlanFor}
use Rattle.policy.specs.declared.Rules.{Rules}
use Rattle.node.specs.declared.Node.{Node}

abbrev pub node_of : Tasks → Node → model.Node
node_of ts u = record { jobs = jobs_of ts u.cells; taken = u.taken; state = u.state }

-- a sound plan with these rules and this table of next states
pub record Planned (P : Plan) (r : Rules) (next : List ℕ) : Type 0 where
  pub for : PlanFor P r
  pub arcs : P.arcs ≡ arcs_in next
  pub sound : IsSound P

-- the plan with these rules, this table and so many states, on which no edge depends
abbrev pub plan_by : Rules → List ℕ → ℕ → Plan
plan_by r next states = record { tasks = tasks_in r; policy = r.policy; states = states; arcs = arcs_in next }

-- there is one
pub record Planning (r : Rules) (next : List ℕ) : Type 0 where
  pub plan : Plan
  pub planned : Planned plan r next
