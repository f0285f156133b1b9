-- The steps of the discovery, and its end. Assumes nothing.
use mathlib.Core.Path.{◌≡◌, refl, sym, ap, ap₂, subst, ◌∙◌}
use mathlib.Core.List.{List, map, foldl, Memᴰ}
use Prim.Native.Nat.{ℕ, suc, ◌-◌, ◌^◌, ◌≤◌, ◌<◌}
use native.Mathlib.Omega.{arith}
use lib.ListN.{length, get_or}
use Rattle.std.specs.Prelude as rust
use Rattle.std.specs.Prelude.{None, Some}
use Rattle.model.specs.Discovery.{add}
use Rattle.model.specs.Graph.{Node, Edge, start, edges, edges_at, edges_to, edge_of, same_node, targets, nodes}
use Rattle.model.specs.Limits.{max_nodes, max_states, max_window}
use Rattle.model.specs.Lists.{flat_map, up_from}
use Rattle.model.specs.Masks.{mask_count}
use Rattle.model.specs.Plan.{Plan, next_in, IsSound}
use Rattle.model.specs.Walk.{Walk, here, go}
use Rattle.model.proofs.Lists.{mem-get_or}
use Rattle.model.proofs.Discovery.{found-step, found_all, found-many}
use Rattle.theory.proofs.Nodes.{same-node, explored, explored_reachable}
use Rattle.theory.proofs.Edges.{mem-edges}
use Rattle.theory.proofs.Patterns.{pattern-below}
use Rattle.theory.proofs.Sound.{sound-plan, next_in_arc}
use Rattle.plan.specs.View.{arcs_in}
use Rattle.policy.specs.View.{Tasks, cell_count, Cells, tasks_in, Ruled, PlanFor}
use Rattle.policy.specs.declared.Rules.{Rules}
use Rattle.node.specs.declared.Node as graph
use Rattle.graph.specs.View.{node_of, Planned}
use Rattle.store.specs.Store.{row_at}
use Rattle.discovery.proofs.Growing.{known-after}
use Rattle.discovery.proofs.Held.{held-count, held-node}
use Rattle.discovery.specs.Discovery.{node_in, Known, Explored, edges_below}

-- the edges of a node by the table of next states
edges-below : (P : Plan) (next : List ℕ) (count : ℕ) (u : Node) → P.arcs ≡ arcs_in next → length P.tasks ≡ count →
    edges_below next u (2 ^ count) P ≡ edges P u
unfolding edges edges_at
edges-below P next count u arcs size =
    λ i. flat_map (λ l. edges_to P u l (next_in (sym arcs i) u.state l)) (up_from 0 (2 ^ sym size i))

-- the k-th row is explored next
module _ (P : Plan) (r : Rules) (for : PlanFor P r) (next : List ℕ) (arcs : P.arcs ≡ arcs_in next) (size : length P.tasks ≡ r.tasks.count)
    (first m : List ℕ) (known k : ℕ) (below : k < known) (held : Known (tasks_in r) (explored P k) first m (Some known)) where
  row-node-at : node_of (tasks_in r) (node_in (row_at m k)) ≡ get_or (explored P k) k start
  row-node-at = held-node (tasks_in r) m known (explored P k) (held.held known refl).1 k below

  turn : (m' : List ℕ) (q : rust.Option ℕ) → Explored r (edges_below next (node_of (tasks_in r) (node_in (row_at m k))) (2 ^ r.tasks.count)) m known m' q →
      Known (tasks_in r) (explored P (suc k)) first m' q
  turn m' q x =
      known-after held.only
      (ap₂ (λ (l : List Node) (es : List Edge). foldl (add same_node) l (map (λ e. e.to) es)) (held.held known refl).1
      (edges-below P next r.tasks.count (node_of (tasks_in r) (node_in (row_at m k))) arcs size ∙ ap (edges P) row-node-at)
      ∙ sym (found-step same_node same-node (targets P) start k (omega (arith, held-count (tasks_in r) m known (explored P k) (held.held known refl).1))))
      (x.known P for)

-- a sound plan's walks stay within the states
module _ (P : Plan) (s : IsSound P) where
  edge-state : (u : Node) (e : Edge) → Memᴰ e (edges P u) → e.to.state < max_states
  unfolding edge_of
  edge-state u e h =
      let r = ((mem-edges P u e).0 h).at in
      let a = next_in_arc P.arcs u.state ((mem-edges P u e).0 h).label r.next r.admitted in
      let arc = ((sound-plan P s).arc a.0 a.1).to_below in
      let to : e.to.state ≡ r.next = ap (λ (f : Edge). f.to.state) r.is in
      omega (arith, arc, a.4, to, (sound-plan P s).states_fit)

  walk_state : {u v : Node} {es : List Edge} → Walk P u v es → u.state < max_states → v.state < max_states
  walk_state here h = h
  walk_state (go {u} {v} {e} k w) h = walk_state w (edge-state u e k)

  pub state-below : (k i : ℕ) → i < length (explored P k) → (get_or (explored P k) i start).state < max_states
  state-below k i h = walk_state (explored_reachable P k (get_or (explored P k) i start) (mem-get_or (explored P k) i start h)).1 (omega arith)

  -- and so within the bits of a mask
  pub taken-below : (k i : ℕ) → i < length (explored P k) → (get_or (explored P k) i start).taken < mask_count
  taken-below k i h = omega (arith, pattern-below P (max_window - 1) (λ t m. ((sound-plan P s).task t m).window_fits) k i h)

-- one turn, for every plan with these rules and this table
module _ (r : Rules) (ruled : Ruled r) (next first m : List ℕ) (known k : ℕ) (below : k < known)
    (held : (P : Plan) → Planned P r next → Known (tasks_in r) (explored P k) first m (Some known)) (u : graph.Node) (named : u ≡ node_in (row_at m k)) where
  tasks-size : (P : Plan) → Planned P r next → length P.tasks ≡ r.tasks.count
  tasks-size P p = ap length p.for.tasks ∙ ruled.size

  pub row-cells : (P : Plan) → Planned P r next → Cells (tasks_in r) cell_count u.cells
  row-cells P p = subst (λ (v : graph.Node). Cells (tasks_in r) cell_count v.cells) (sym named) (((held P p).held known refl).0.cells k below)

  pub row-state : (P : Plan) → Planned P r next → u.state < max_states
  row-state P p =
      let nodes = ((held P p).held known refl).1 in
      let state : u.state ≡ (get_or (explored P k) k start).state =
      ap (λ (v : graph.Node). v.state) named ∙ ap (λ (v : Node). v.state) (held-node (tasks_in r) m known (explored P k) nodes k below) in
      omega (arith, state-below P p.sound k k (omega (arith, held-count (tasks_in r) m known (explored P k) nodes)), state)

  pub row-taken : (P : Plan) → Planned P r next → u.taken < mask_count
  row-taken P p =
      let nodes = ((held P p).held known refl).1 in
      let taken : u.taken ≡ (get_or (explored P k) k start).taken =
      ap (λ (v : graph.Node). v.taken) named ∙ ap (λ (v : Node). v.taken) (held-node (tasks_in r) m known (explored P k) nodes k below) in
      omega (arith, taken-below P p.sound k k (omega (arith, held-count (tasks_in r) m known (explored P k) nodes)), taken)

  pub next_turn : (m' : List ℕ) (q : rust.Option ℕ) → Explored r (edges_below next (node_of (tasks_in r) u) (2 ^ r.tasks.count)) m known m' q →
      (P : Plan) → Planned P r next → Known (tasks_in r) (explored P (suc k)) first m' q
  next_turn m' q x P p =
      turn P r p.for next p.arcs (tasks-size P p) first m known k below (held P p) m' q
      (subst (λ (v : graph.Node). Explored r (edges_below next (node_of (tasks_in r) v) (2 ^ r.tasks.count)) m known m' q) named x)

-- at the end, the nodes
module _ (P : Plan) (ts : Tasks) (first m : List ℕ) (k : ℕ) (few : k ≤ max_nodes) where
  pub whole-many : Known ts (explored P k) first m None → Known ts (nodes P) first m None
  unfolding nodes
  whole-many known = record {
    held = λ n h. cc;
    many = λ h. found-many same_node same-node (targets P) start max_nodes k few (known.many h);
    only = known.only;
  }

  pub whole-end : (q : ℕ) → q ≤ k → Known ts (explored P k) first m (Some q) → Known ts (nodes P) first m (Some q)
  unfolding nodes
  whole-end q done known =
      let size = held-count ts m q (explored P k) (known.held q refl).1 in
      subst (λ (l : List Node). Known ts l first m (Some q)) (found_all same_node same-node (targets P) start max_nodes k few (omega (arith, size))) known
