-- The outcomes noted of a label are its best edges, one to each node that it leads to. Assumes nothing.
use mathlib.Core.Path.{◌≡◌, refl, sym, ap, subst, ◌∙◌}
use mathlib.Core.List.Memᴰ
use mathlib.Core.List.{List, map, Memᴰ}
use Prim.Native.Nat.{ℕ, ◌+◌, ◌/◌, ◌<◌, ◌≤◌}
use native.Mathlib.Omega.{arith}
use Rattle.std.specs.Prelude.{None}
use Rattle.model.specs.Graph as model
use Rattle.model.specs.Graph.{choices, joined, worth, edge_of, edges_at, nodes}
use Rattle.model.specs.Plan.{Plan}
use Rattle.words.specs.Packed.{packed}
use Rattle.theory.specs.Lightest.{node_at, Best}
use Rattle.policy.specs.View.{Tasks, tasks_in}
use Rattle.policy.specs.declared.Rules.{Rules}
use Rattle.graph.specs.Outcomes.{Notes, pattern_in, noted_of, nothing_noted}
use Rattle.graph.specs.View.{node_of}
use Rattle.node.specs.declared.Node.{Node}
use Rattle.graph.specs.declared.Noted.{Noted}
use Rattle.graph.proofs.Notes.{masks-read}
use Rattle.graph.proofs.Outcomes.{score_at, choice_noted, noted_choice}
use Rattle.store.specs.Store.{row_at}
use Rattle.discovery.specs.Discovery.{node_in}
use Rattle.discovery.proofs.Held.{held-node}
use Rattle.potentials.specs.Potentials.{with_pattern}
use Rattle.potentials.specs.Best.{Leads, Expanded, place_of, NotedBest}
use Rattle.potentials.proofs.Greatest.{order-scored, choice_order}
use Rattle.potentials.proofs.Numbers.{index_below, index-node, index_is}
use Rattle.potentials.proofs.Expanded.{node-is, edges_none, gained, edges-choices, choice_to, pattern_there, noted_there, there_noted, pattern_small}

module _ {P : Plan} {r : Rules} {next m : List ℕ} {n u : ℕ} {node : Node} {l : ℕ} where
  -- a label that is not admitted has no edge
  pub no_outcome : Leads P r next m n u node l None → {v : ℕ} {e : model.Edge} → Best P u l v e → ⊥
  no_outcome t {e = e} b =
      Memᴰ.not-nil (subst (Memᴰ e) (ap (λ (w : model.Node). edges_at P w l) (sym (node-is t)) ∙ edges_none t) b.edge)

  module _ {state : ℕ} {before notes : List ℕ} {d : Noted} (t : Expanded P r next m n u node l state before notes d) where
    abbrev ts : Tasks
    ts = tasks_in r

    -- what is noted of the choices
    abbrev known : Notes
    known = noted_of ts l node.taken t.wanted nothing_noted

    -- the edge of a choice
    abbrev edge : List ℕ → model.Edge
    edge ms = edge_of P (node_of ts node) l state ms

    -- the node of a pattern, and its number
    abbrev target : ℕ → Node
    target p = with_pattern d.done.cells state p

    abbrev place : ℕ → ℕ
    place p = place_of m n d.done.cells state p

    edges_are : edges_at P (node_at P u) l ≡ map edge (choices ts l node.taken)
    edges_are = ap (λ (w : model.Node). edges_at P w l) (sym (node-is t.leads)) ∙ edges-choices t

    place-below : (p : ℕ) → Memᴰ p known.order → place p < n
    place-below p k = index_below P ts m n t.leads.holds (target p) t.reaches.slot.cells (omega (arith, pattern_small t p k)) (pattern_there t p k)

    place-node : (p : ℕ) → Memᴰ p known.order → node_at P (place p) ≡ node_of ts (target p)
    place-node p k = index-node P ts m n t.leads.holds (target p) t.reaches.slot.cells (omega (arith, pattern_small t p k)) (pattern_there t p k)

    -- an edge is that of a choice
    edge_choice : (e : model.Edge) → Memᴰ e (edges_at P (node_at P u) l) →
        (ms : List ℕ) × Memᴰ ms (choices ts l node.taken) × (edge ms ≡ e)
    edge_choice e k = Memᴰ.of_map edge (choices ts l node.taken) (subst (Memᴰ e) edges_are k)

    -- what is noted for a pattern is no less than the gain of an edge to its node
    edge-noted : (p : ℕ) → Memᴰ p known.order → (e : model.Edge) → Memᴰ e (edges_at P (node_at P u) l) → e.to ≡ node_at P (place p) →
        e.ideal + 1 ≤ score_at known p
    unfolding edge_of
    edge-noted p k e h there =
        let c = edge_choice e h in
        let same : joined node.taken c.0 / 2 ≡ p =
        ap (λ (w : model.Node). w.taken) (ap (λ (f : model.Edge). f.to) c.2 ∙ there ∙ place-node p k) in
        let gain : worth ts c.0 ≡ e.ideal =
        ap (λ (ts' : Tasks). worth ts' c.0) (sym t.leads.planned.for.tasks) ∙ ap (λ (f : model.Edge). f.ideal) c.2 in
        omega (arith, choice_noted ts t.ruled.tasks l node.taken t.low t.wanted c.0 c.1, ap (score_at known) same)

    -- a pattern that is noted has a best edge to its node
    pattern-best : (p : ℕ) → Memᴰ p known.order → NotedBest P u l (place p) t.wanted notes d p
    unfolding edge_of
    pattern-best p k = record {
      low = pattern_small t p k;
      edge = edge ms;
      best = record {
        edge = subst (Memᴰ (edge ms)) (sym edges_are) (Memᴰ.map edge c.1);
        to = choice_to t ms ∙ ap (λ (q : ℕ). node_of ts (target q)) c.2 ∙ sym (place-node p k);
        most = λ e h there. omega (arith, edge-noted p k e h there, c.3, gain);
      };
      label = refl;
      kept = sym (gained t);
      ideal = omega (arith, gain, c.3, ap (λ (s : Notes). score_at s p) t.reaches.notes);
      masks = λ w. masks-read notes d.count ∙ ap (λ (s : Notes). s.masks) t.reaches.notes ∙ c.4 w;
    }
      where
        c : (ms : List ℕ) × Memᴰ ms (choices ts l node.taken) × (joined node.taken ms / 2 ≡ p) ×
            (score_at known p ≡ worth ts ms + 1) × (p ≡ t.wanted → known.masks ≡ packed ms)
        c = noted_choice ts t.ruled.tasks l node.taken t.low t.wanted p (order-scored ts t.ruled.tasks l node.taken t.low t.wanted p k)

        ms : List ℕ
        ms = c.0

        gain : worth ts ms ≡ (edge ms).ideal
        gain = ap (λ (ts' : Tasks). worth ts' ms) (sym t.leads.planned.for.tasks)

    -- an outcome that is noted has a best edge to its node
    pub outcome-best : (k : ℕ) → k < d.count →
        (place (pattern_in notes k) < n) × NotedBest P u l (place (pattern_in notes k)) t.wanted notes d (pattern_in notes k)
    outcome-best k h = (place-below (pattern_in notes k) (noted_there t k h), pattern-best (pattern_in notes k) (noted_there t k h))

    -- a best edge leads to the node of a pattern that is noted
    best-pattern : {v : ℕ} {e : model.Edge} → v < n → Best P u l v e → (p : ℕ) × Memᴰ p known.order × (place p ≡ v)
    unfolding edge_of
    best-pattern {v} {e} h b =
        let c = edge_choice e b.edge in
        let p = joined node.taken c.0 / 2 in
        let k = choice_order ts t.ruled.tasks l node.taken t.low t.wanted c.0 c.1 in (
          p,
          k,
          index_is P ts m n t.leads.holds (target p) t.reaches.slot.cells (omega (arith, pattern_small t p k)) v h
              (sym (choice_to t c.0) ∙ ap (λ (f : model.Edge). f.to) c.2 ∙ b.to),
        )

    pub best-outcome : {v : ℕ} {e : model.Edge} → v < n → Best P u l v e → (k : ℕ) × (k < d.count) × (place (pattern_in notes k) ≡ v)
    best-outcome h b =
        let q = best-pattern h b in
        let s = there_noted t q.0 q.1 in
        (s.0, s.1, ap place s.2 ∙ q.2)

    -- the row of a pattern's node has the pattern
    place-taken : (p : ℕ) → Memᴰ p known.order → (node_in (row_at m (place p))).taken ≡ p
    place-taken p k =
        ap (λ (w : model.Node). w.taken) (held-node ts m n (nodes P) t.leads.holds.nodes (place p) (place-below p k) ∙ place-node p k)

    -- so the pattern is found in the node's row
    pub step-noted : {v : ℕ} {e : model.Edge} → v < n → Best P u l v e → NotedBest P u l v t.wanted notes d (node_in (row_at m v)).taken
    step-noted {v} h b =
        let q = best-pattern h b in
        subst (λ (w : ℕ). NotedBest P u l w t.wanted notes d (node_in (row_at m w)).taken) q.2
        (subst (NotedBest P u l (place q.0) t.wanted notes d) (sym (place-taken q.0 q.1)) (pattern-best q.0 q.1))
