-- Laws of the view of a node and of a plan.
-- Assumes nothing.
use mathlib.Core.Path.{◌≡◌, refl, sym, ap}
use mathlib.Core.List.{List}
use mathlib.Core.Logic.{◌↔◌}
use native.Mathlib.Omega.{arith}
use Rattle.model.specs.Graph as model
use Rattle.model.specs.Plan.{IsSound}
use Rattle.model.specs.Slot.{Job}
use Rattle.plan.specs.View.{plan_of}
use Rattle.plan.specs.declared.tasks.Plan.{Plan}
use Rattle.policy.specs.View.{Tasks, cell_count, Cells, RulesOf}
use Rattle.policy.specs.declared.Rules.{Rules}
use Rattle.policy.proofs.Canonical.{view_injective}
use Rattle.policy.proofs.Cells.{empty-jobs, empty-cells}
use Rattle.node.specs.Start.{start_node}
use Rattle.graph.specs.View.{node_of, Planned}
use Rattle.node.specs.declared.Node.{Node}

-- nodes whose cells a node can hold have equal views just if their fields are equal
pub same_view : (ts : Tasks) (u v : Node) → Cells ts cell_count u.cells → Cells ts cell_count v.cells
    → (node_of ts u ≡ node_of ts v) ↔ ((u.cells ≡ v.cells) × (u.taken ≡ v.taken) × (u.state ≡ v.state))
same_view ts u v hu hv = (
  λ e. (
    view_injective ts cell_count u.cells v.cells (omega arith) hu hv (ap (λ (w : model.Node). w.jobs) e),
    ap (λ (w : model.Node). w.taken) e,
    ap (λ (w : model.Node). w.state) e,
  ),
  λ h. cc,
)

-- a plan that is read is one with its rules and its table of next states
pub planned-of : (p : Plan) (r : Rules) → IsSound (plan_of p) → RulesOf p r → Planned (plan_of p) r p.next
planned-of p r s of = record { for = record { tasks = sym of.tasks; policy = sym of.policy }; arcs = refl; sound = s }

-- the start node, whatever the tasks
pub start_view : (ts : Tasks) → node_of ts start_node ≡ model.start
start_view ts = ap (λ (js : List Job). record { jobs = js; taken = 0; state = 0 }) (empty-jobs ts cell_count)

pub start-cells : (ts : Tasks) → Cells ts cell_count start_node.cells
start-cells ts = empty-cells ts cell_count
