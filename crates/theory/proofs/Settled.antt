-- A search over the lightest edges that has come to rest: every node is known, and the distances are the smallest costs, so that a
-- certificate may be written with them.
-- Assumes nothing.
use mathlib.Core.Path.{◌≡◌, refl, sym, ◌∙◌, ap, subst, subst₂}
use mathlib.Core.Bool.{true, false}
use mathlib.Core.List.{List, [], map, Memᴰ}
use mathlib.Core.Option.{some}
use Prim.Native.Nat.{ℕ, ◌*◌, ◌<◌, ◌≤◌}
use native.Mathlib.Omega.{arith}
use lib.IntN.{ℤ, pos, ◌+ℤ◌}
use lib.ListN.{length, length-map}
use lib.Signed.{◌≤ℤ◌}
use borrow.Author.Tests.{eq-eqb}
use Rattle.model.specs.Limits.{max_steps}
use Rattle.model.specs.Lists.{up_from}
use Rattle.model.specs.Plan.{Plan}
use Rattle.model.specs.Discovery.{number_in}
use Rattle.model.specs.Graph.{Node, Edge, start, edges, nodes, too_large, same_node}
use Rattle.model.specs.Walk.{Walk, here, go, kept, ideal}
use Rattle.model.specs.Certificate.{Certificate}
use Rattle.model.specs.Check.{potential_at, weight, fraction_ok, cycle_ok}
use Rattle.model.specs.Passes.{PassesTo, beginning}
use Rattle.model.specs.Solve.{Solved}
use Rattle.model.proofs.Lists.{mem-get_or, length-up_from, get_or-table}
use Rattle.theory.specs.Search.{Taken, State, distances_of, distances, Quiet, Search}
use Rattle.theory.specs.Lightest.{node_at, Lightest, Along, step_of}
use Rattle.theory.proofs.Sound.{PlanSound}
use Rattle.theory.proofs.Nodes.{number_at, number-get_or, some-node, first-node, nodes_reachable, nodes-distinct, start_in_nodes, number-start, nodes-closed}
use Rattle.theory.proofs.Costs.{Feasible}
use Rattle.theory.proofs.Potentials.{potential_of, feasible_pass}
use Rattle.theory.proofs.Distances.{AllSmallest, pass_smallest}
use Rattle.theory.proofs.Written.{cycle-written}
use Rattle.theory.proofs.Passes.{passes-few}
use Rattle.theory.proofs.Searched.{told-all}
use Rattle.theory.proofs.Solved.{solved-of}
use Rattle.theory.proofs.Search.{search_path}
use Rattle.theory.proofs.Circuits.{done-edge, path_along, along_walk, along-length}

pub length-distances : (n : ℕ) (s : State) → length (distances n s) ≡ n
length-distances n s = length-map (up_from 0 n) s.dist ∙ length-up_from 0 n

module _ (P : Plan) (sd : PlanSound P) (fits : too_large P ≡ false) {p q c : ℕ} {s : State}
    (r : Search (Lightest P p q) (length (nodes P)) c s) (quiet : Quiet (length (nodes P)) s) where
  -- a node's number
  abbrev number : Node → ℕ
  number v = number_in same_node (nodes P) v

  -- an edge from a known node leads to a known one, whose distance is no greater than with the edge's weight
  settled_edge : (u : ℕ) → u < length (nodes P) → s.known u ≡ true → (e : Edge) → Memᴰ e (edges P (node_at P u)) →
      (s.known (number e.to) ≡ true) × (s.dist (number e.to) ≤ℤ (s.dist u +ℤ weight p q e))
  settled_edge u h k = done-edge P sd fits p q s u h (r.done u h k (quiet u h k))

  -- so does a walk
  settled_walk : {u v : Node} {es : List Edge} → Memᴰ u (nodes P) → s.known (number u) ≡ true → Walk P u v es →
      s.known (number v) ≡ true
  settled_walk m k here = k
  settled_walk {u} m k (go {e = e} j w) =
      let at = number_at (nodes P) u start m in
      settled_walk (nodes-closed P fits u m e j)
      (settled_edge (number u) at.0 k e (subst (λ x. Memᴰ e (edges P x)) (sym at.1) j)).0 w

  -- every node is known
  pub settled_known : (v : ℕ) → v < length (nodes P) → s.known v ≡ true
  settled_known v h =
      ap s.known (sym (number-get_or (nodes P) start (nodes-distinct P) v h))
      ∙ settled_walk (start_in_nodes P) (ap s.known (number-start P) ∙ r.tree.upward.root)
      (nodes_reachable P (node_at P v) (mem-get_or (nodes P) v start h)).1

  -- and the distances are the smallest costs
  pub settled_smallest : AllSmallest P p q (distances (length (nodes P)) s)
  settled_smallest i h =
      let t = search_path (Lightest P p q) r quiet i h (settled_known i h) in
      let a = path_along t.2 in
      pass_smallest P fits p q zs (feasible_pass P (nodes P) p q zs (nodes-distinct P) feasible)
      (potential 0 (some-node P) ∙ r.tree.zero-at) i h
      (subst (λ x. Walk P x (node_at P i) a.0) (first-node P) (along_walk P sd a.1)) (a.2 ∙ sym (potential i h))
    where
      zs : List ℤ
      zs = distances (length (nodes P)) s

      potential : (j : ℕ) → j < length (nodes P) → potential_at zs j ≡ s.dist j
      potential j = get_or-table s.dist (length (nodes P)) j (pos 0)

      feasible : Feasible p q P (nodes P) (potential_of (nodes P) zs)
      feasible u m e k =
          let from = number_at (nodes P) u start m in
          let to = number_at (nodes P) e.to start (nodes-closed P fits u m e k) in
          subst₂ (λ y z. y ≤ℤ (z +ℤ weight p q e)) (sym (potential (number e.to) to.0)) (sym (potential (number u) from.0))
          (settled_edge (number u) from.0 (settled_known (number u) from.0) e
          (subst (λ x. Memᴰ e (edges P x)) (sym from.1) k)).1

  -- so the passes that have found them are at most as many as nodes
  pub settled_few : {k : ℕ} → PassesTo P p q (beginning (length (nodes P))) (distances_of (length (nodes P)) s) k → k ≤ length (nodes P)
  settled_few {k} passed =
      passes-few P p q fits (distances (length (nodes P)) s) (length-distances (length (nodes P)) s) settled_smallest
      (subst (λ ds. PassesTo P p q (beginning (length (nodes P))) ds k) (told-all (length (nodes P)) s settled_known) passed)

-- ---- the certificate

module _ (P : Plan) (sd : PlanSound P) (fits : too_large P ≡ false) {p q : ℕ} (ok : fraction_ok p q ≡ true) {zs : List ℤ}
    (sized : length zs ≡ length (nodes P)) (smallest : AllSmallest P p q zs) {k : ℕ}
    (passes : PassesTo P p q (beginning (length (nodes P))) (map some zs) k) where
  -- without a cycle, for q = 0
  pub solved-bare : q ≡ 0 → Solved P (record { p = p; q = q; potentials = zs; node = 0; steps = [] }) k
  unfolding cycle_ok
  solved-bare e =
      solved-of P sd fits (record { p = p; q = q; potentials = zs; node = 0; steps = [] }) sized ok smallest
      (rw (eq-eqb q 0 e)) (omega arith) (λ z. (refl, refl)) passes

  -- with a cycle along which exactly p/q is kept
  pub solved-cycle : 0 < q → {v : ℕ} {ss : List Taken} {es : List Edge} → Along P v ss v es → v < length (nodes P) →
      length ss ≤ max_steps → 0 < ideal es → p * ideal es ≡ q * kept es →
      Solved P (record { p = p; q = q; potentials = zs; node = v; steps = map step_of es }) k
  solved-cycle positive {v} {es = es} a h few gains exact =
      solved-of P sd fits cert sized ok smallest
      (cycle-written P sd (nodes P) cert h (record { path = es; walk = along_walk P sd a; some = gains; exact = exact }) refl)
      (omega (arith, length-map es step_of, along-length a)) (λ z. absurd (omega arith)) passes
    where
      cert : Certificate
      cert = record { p = p; q = q; potentials = zs; node = v; steps = map step_of es }
