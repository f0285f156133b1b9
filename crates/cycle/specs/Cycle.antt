-- What following a certificate's steps gives.
use Rattle.std.specs.Prelude as rust
use Rattle.std.specs.Prelude.{◌≡◌, List, ℕ, ◌<◌, None, Some}
use Rattle.std.proofs.Math.Option.{Option, none, some}
use Rattle.model.specs.Certificate.{Step}
use Rattle.model.specs.Check.{Reached, follow}
use Rattle.model.specs.Limits.{max_states}
use Rattle.model.specs.Masks.{mask_count}
use Rattle.policy.specs.View.{Tasks, cell_count, Cells, tasks_in}
use Rattle.policy.specs.declared.Rules.{Rules}
use Rattle.graph.specs.View.{node_of, plan_by}
use Rattle.node.specs.declared.Node.{Node}
use Rattle.cycle.specs.declared.Walked.{Walked}

-- what the struct stands for, none where the steps are not all edges
abbrev pub reached_in : Tasks → rust.Option Walked → Option Reached
reached_in ts None = none
reached_in ts (Some w) = some (record { at = node_of ts w.at; kept = w.kept; ideal = w.ideal })

-- where these steps lead from a node, cells and a pattern that a node can hold
pub record Followed (next : List ℕ) (r : Rules) (steps : List Step) (from : Node) (o : rust.Option Walked) : Type 0 where
  pub reached : reached_in (tasks_in r) o ≡ follow (plan_by r next max_states) steps (record { at = node_of (tasks_in r) from; kept = 0; ideal = 0 })
  pub within : (w : Walked) → o ≡ Some w → Cells (tasks_in r) cell_count w.at.cells × (w.at.taken < mask_count)
