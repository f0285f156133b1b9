-- One edge of a node, by its label and masks.
use Rattle.std.specs.Prelude as rust
use Rattle.std.specs.Prelude.{◌≡◌, None, Some, List, ℕ, ◌*◌, ◌<◌, ◌≤◌}
use Rattle.std.proofs.Math.Option.{Option, none, some}
use Rattle.model.specs.Check.{find_step}
use Rattle.model.specs.Graph as model
use Rattle.model.specs.Limits.{max_tasks, max_value, max_states}
use Rattle.model.specs.Masks.{mask_count}
use Rattle.policy.specs.View.{Tasks, cell_count, Cells, tasks_in}
use Rattle.policy.specs.declared.Rules.{Rules}
use Rattle.graph.specs.View.{node_of, plan_by}
use Rattle.node.specs.declared.Node.{Node}
use Rattle.graph.specs.declared.Edge.{Edge}

-- the end of an edge: where it leads, and both gains
pub record End : Type 0 where
  pub to : model.Node
  pub kept : ℕ
  pub ideal : ℕ

-- an edge's end
abbrev pub end_of : model.Edge → End
end_of e = record { to = e.to; kept = e.kept; ideal = e.ideal }

-- the end of an edge, if there is one
abbrev pub end_in : Option model.Edge → Option End
end_in none = none
end_in (some e) = some (end_of e)

-- the end that a struct stands for, if there is one
abbrev pub edge_end : Tasks → rust.Option Edge → Option End
edge_end ts None = none
edge_end ts (Some e) = some (record { to = node_of ts e.to; kept = e.kept; ideal = e.ideal })

-- a node and gains within their limits
pub record EdgeFits (ts : Tasks) (e : Edge) : Type 0 where
  pub cells : Cells ts cell_count e.to.cells
  pub state : e.to.state < max_states
  pub taken : e.to.taken < mask_count
  pub kept : e.kept ≤ max_value
  pub ideal : e.ideal ≤ max_tasks * max_value

-- the edge of the node u with this label and these masks, within its limits, and none where there is no edge
pub record Stepped (next : List ℕ) (r : Rules) (u : Node) (l : ℕ) (ms : List ℕ) (o : rust.Option Edge) : Type 0 where
  pub edge : edge_end (tasks_in r) o ≡ end_in (find_step (record { label = l; masks = ms }) (model.edges (plan_by r next max_states) (node_of (tasks_in r) u)))
  pub fits : (e : Edge) → o ≡ Some e → EdgeFits (tasks_in r) e
