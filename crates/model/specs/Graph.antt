-- The graph of a plan: nodes, edges, and the order of discovery.
use Rattle.std.specs.Prelude.{ℕ, ◌+◌, ◌/◌, ◌%◌, ◌^◌, Bool, cond, ◌&&◌, ltb, eqb, length}
use mathlib.Core.List.{List, [], ◌∷◌, map, foldl}
use Rattle.std.proofs.Math.Option.{Option, none, some}
use Rattle.std.specs.Int.Bits.{bit_or}
use Rattle.model.specs.Limits.{max_nodes}
use Rattle.model.specs.Lists.{flat_map, up_from, same_by}
use Rattle.model.specs.Discovery.{found}
use Rattle.model.specs.Masks.{masks_of}
use Rattle.model.specs.Plan.{Task, Plan, next_in}
use Rattle.model.specs.Slot.{Job, slot}

-- "the policy's jobs .., the pattern of taken slots (bit j: the slot j from now) and the automaton state"; jobs stand in release order
pub record Node : Type 0 where
  pub jobs : List Job
  pub taken : ℕ
  pub state : ℕ

-- "The start node holds no jobs and no taken slot, in state 0."
abbrev pub start : Node
start = record { jobs = []; taken = 0; state = 0 }

-- The choices of the tasks with their bits of the label: "for each task a mask", "upward with task 1's mask the most significant.
-- For each mask of a task, every choice of the later tasks follows."
unfoldable pub choices : List Task → ℕ → ℕ → List (List ℕ)
choices [] l taken = [] ∷ []
choices (t ∷ ts) l taken =
    flat_map (λ m. map (λ ms. m ∷ ms) (choices ts (l / 2) (bit_or taken m))) (masks_of t (eqb (l % 2) 1) taken)

-- "The masks join the pattern"
abbrev pub joined : ℕ → List ℕ → ℕ
joined taken ms = foldl bit_or taken ms

-- "The clairvoyant gains V for each mask that isn't 0"
abbrev pub worth : List Task → List ℕ → ℕ
worth [] ms = 0
worth (t ∷ ts) [] = 0
worth (t ∷ ts) (m ∷ ms) = cond (eqb m 0) 0 t.value + worth ts ms

-- "An edge is an admitted label and a choice"; with where it leads and both gains
pub record Edge : Type 0 where
  pub label : ℕ
  pub masks : List ℕ
  pub to : Node
  pub kept : ℕ  -- the policy's gain
  pub ideal : ℕ  -- the clairvoyant's gain

-- the edge of a choice, where the label leads to the state s: the pattern, once joined, "moves down one place"
unfoldable pub edge_of : Plan → Node → ℕ → ℕ → List ℕ → Edge
edge_of P u l s ms =
    let d = slot P u.jobs l in
    record {
      label = l;
      masks = ms;
      to = record { jobs = d.jobs; taken = joined u.taken ms / 2; state = s };
      kept = d.gain;
      ideal = worth P.tasks ms;
    }

-- the edges of a label, by the state that it leads to
abbrev pub edges_to : Plan → Node → ℕ → Option ℕ → List Edge
edges_to P u l none = []
edges_to P u l (some s) = map (edge_of P u l s) (choices P.tasks l u.taken)

unfoldable pub edges_at : Plan → Node → ℕ → List Edge
edges_at P u l = edges_to P u l (next_in P.arcs u.state l)

-- all edges of a node, "labels upward, choices upward"
unfoldable pub edges : Plan → Node → List Edge
edges P u = flat_map (edges_at P u) (up_from 0 (2 ^ length P.tasks))

-- ---- discovery

abbrev pub same_job : Job → Job → Bool
same_job a b = eqb a.task b.task && eqb a.work b.work && eqb a.left b.left

abbrev pub same_jobs : List Job → List Job → Bool
same_jobs = same_by same_job

abbrev pub same_node : Node → Node → Bool
same_node u v = same_jobs u.jobs v.jobs && eqb u.taken v.taken && eqb u.state v.state

-- where the edges of a node lead, in their order
abbrev pub targets : Plan → Node → List Node
targets P u = map (λ e. e.to) (edges P u)

-- "A plan's nodes are the start node and all that edges lead to from it, one edge after another", "numbered in order of discovery: nodes
-- by number, labels upward, choices upward": all of them, where they are at most 1,024
unfoldable pub nodes : Plan → List Node
nodes P = found same_node (targets P) start max_nodes

-- "more than 1,024 reachable nodes"
unfoldable pub too_large : Plan → Bool
too_large P = ltb max_nodes (length (nodes P))
