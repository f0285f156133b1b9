-- A label of a numbered node: where it leads, and the outcomes noted of it as best edges.
use Rattle.std.specs.Prelude as rust
use Rattle.std.specs.Prelude.{◌≡◌, List, ℕ, ◌+◌, ◌<◌, Some}
use Rattle.model.specs.Graph as model
use Rattle.model.specs.Masks.{mask_count}
use Rattle.model.specs.Options.{option_of}
use Rattle.model.specs.Plan.{Plan, next_in}
use Rattle.words.specs.Packed.{packed}
use Rattle.theory.specs.Lightest.{Best}
use Rattle.plan.specs.View.{arcs_in}
use Rattle.policy.specs.View.{tasks_in, Ruled}
use Rattle.policy.specs.declared.Rules.{Rules}
use Rattle.graph.specs.Outcomes.{pattern_count, masks_in}
use Rattle.graph.specs.Label.{Reaches}
use Rattle.graph.specs.View.{Planned}
use Rattle.node.specs.declared.Node.{Node}
use Rattle.graph.specs.declared.Noted.{Noted}
use Rattle.store.specs.Store.{rows_in, index_in}
use Rattle.discovery.specs.Discovery.{row_of, Holds}
use Rattle.potentials.specs.Potentials.{Numbered, with_pattern, score_in}

-- at the node in the row u the label l leads to this state, or to none
pub record Leads (P : Plan) (r : Rules) (next m : List ℕ) (n u : ℕ) (node : Node) (l : ℕ) (to : rust.Option ℕ) : Type 0 where
  pub planned : Planned P r next
  pub holds : Holds P (tasks_in r) m n
  pub at : Numbered m n u node
  pub state : option_of to ≡ next_in (arcs_in next) node.state l

-- it leads to the state t, and its outcomes are noted
pub record Expanded (P : Plan) (r : Rules) (next m : List ℕ) (n u : ℕ) (node : Node) (l t : ℕ) (before notes : List ℕ) (d : Noted) : Type 0 where
  pub leads : Leads P r next m n u node l (Some t)
  pub ruled : Ruled r
  pub low : node.taken < mask_count
  pub wanted : ℕ
  pub reaches : Reaches r node l wanted before notes d

-- the number of the node of a pattern, by its row
abbrev pub place_of : List ℕ → ℕ → List ℕ → ℕ → ℕ → ℕ
place_of m n cells state p = index_in (rows_in m n) (row_of (with_pattern cells state p))

-- a best edge of the label l from the node u to the node v has what is noted for the pattern p, and its masks if they are wanted
pub record NotedBest (P : Plan) (u l v wanted : ℕ) (notes : List ℕ) (d : Noted) (p : ℕ) : Type 0 where
  pub low : p < pattern_count
  pub edge : model.Edge
  pub best : Best P u l v edge
  pub label : edge.label ≡ l
  pub kept : edge.kept ≡ d.done.gain
  pub ideal : edge.ideal + 1 ≡ score_in notes d.count p
  pub masks : p ≡ wanted → masks_in notes ≡ packed edge.masks
