-- Potentials that are the smallest costs of walks from the start pass the checker's test of edges; and what passes and is attained is smallest.
-- Assumes nothing.
use mathlib.Core.Path.{◌≡◌, sym, ◌∙◌, ap, subst}
use mathlib.Core.Bool.{true, false}
use mathlib.Core.List.{List, [], ◌∷◌, ◌++◌, Memᴰ}
use Prim.Native.Nat.{ℕ, ◌<◌}
use lib.IntN.{ℤ, pos, ◌+ℤ◌, +ℤ_idl, +ℤ_idr}
use lib.ListN.{length, get_or}
use lib.Signed.{◌≤ℤ◌}
use Rattle.model.specs.Plan.{Plan}
use Rattle.model.specs.Discovery.{number_in}
use Rattle.model.specs.Graph.{Node, Edge, start, edges, nodes, too_large, same_node}
use Rattle.model.specs.Walk.{Walk}
use Rattle.model.specs.Check.{potential_at, weight, edges_ok_from}
use Rattle.model.specs.Solve.{cost, Smallest}
use Rattle.words.proofs.Signed.{≤ℤ_antisymm}
use Rattle.theory.proofs.Cycles.{walk_snoc}
use Rattle.theory.proofs.Nodes.{Closed, number_at, number-get_or, number-start, start_in_nodes, nodes-distinct, nodes-closed}
use Rattle.theory.proofs.Costs.{cost-none, cost-append, cost-cons, Feasible, feasible_walk}
use Rattle.theory.proofs.Potentials.{potential_of, pass_feasible, feasible_pass}

module _ (p q : ℕ) where
  -- one edge more costs its weight more
  pub cost_snoc : (es : List Edge) (e : Edge) → cost p q (es ++ (e ∷ [])) ≡ cost p q es +ℤ weight p q e
  cost_snoc es e =
      cost-append p q es (e ∷ [])
      ∙ ap (λ z. cost p q es +ℤ z) (cost-cons p q e [] ∙ ap (λ z. weight p q e +ℤ z) (cost-none p q) ∙ +ℤ_idr (weight p q e))

  module _ {P : Plan} where
    -- there is one smallest cost
    pub smallest_unique : {v : Node} {y z : ℤ} → Smallest P p q v y → Smallest P p q v z → y ≡ z
    smallest_unique {y = y} {z = z} s t =
        ≤ℤ_antisymm (subst (λ x. y ≤ℤ x) t.reached.2 (s.least t.reached.0 t.reached.1))
        (subst (λ x. z ≤ℤ x) s.reached.2 (t.least s.reached.0 s.reached.1))

    -- the smallest costs of two nodes differ by no more than the weight of an edge between them
    pub smallest_edge : {u : Node} {y z : ℤ} (e : Edge) → Memᴰ e (edges P u) → Smallest P p q u y → Smallest P p q e.to z →
        z ≤ℤ (y +ℤ weight p q e)
    smallest_edge {z = z} e m s t =
        subst (λ x. z ≤ℤ x) (cost_snoc s.reached.0 e ∙ ap (λ x. x +ℤ weight p q e) s.reached.2)
        (t.least (s.reached.0 ++ (e ∷ [])) (walk_snoc s.reached.1 m))

    -- so smallest costs are feasible potentials
    pub smallest_feasible : {ns : List Node} (φ : Node → ℤ) → Closed P ns → ((v : Node) → Memᴰ v ns → Smallest P p q v (φ v)) →
        Feasible p q P ns φ
    smallest_feasible φ c s u m e k = smallest_edge e k (s u m) (s e.to (c u m e k))

    -- and feasible potentials that walks attain, from 0 at the start, are the smallest costs
    pub feasible_smallest : {ns : List Node} (φ : Node → ℤ) → Closed P ns → Memᴰ start ns → Feasible p q P ns φ → φ start ≡ pos 0 →
        {v : Node} {es : List Edge} → Walk P start v es → cost p q es ≡ φ v → Smallest P p q v (φ v)
    feasible_smallest φ c m f zero-at {v} {es} w e = record {
      reached = (es, w, e);
      least = λ fs k.
          subst (λ x. φ v ≤ℤ x) (ap (λ x. x +ℤ cost p q fs) zero-at ∙ +ℤ_idl (cost p q fs)) (feasible_walk p q φ c f m k);
    }

-- the potentials are the smallest costs, by the nodes' numbers
abbrev pub AllSmallest : Plan → ℕ → ℕ → List ℤ → Type 0
AllSmallest P p q zs = (i : ℕ) → i < length (nodes P) → Smallest P p q (get_or (nodes P) i start) (potential_at zs i)

module _ (P : Plan) (fits : too_large P ≡ false) (p q : ℕ) (zs : List ℤ) where
  -- the same by the nodes
  pub smallest_at : AllSmallest P p q zs → (v : Node) → Memᴰ v (nodes P) → Smallest P p q v (potential_of (nodes P) zs v)
  smallest_at s v m =
      let r = number_at (nodes P) v start m in
      subst (λ u. Smallest P p q u (potential_of (nodes P) zs v)) r.1 (s (number_in same_node (nodes P) v) r.0)

  -- smallest costs pass the test of edges
  pub smallest_pass : AllSmallest P p q zs → edges_ok_from P (nodes P) p q zs 0 (nodes P) ≡ true
  smallest_pass s =
      feasible_pass P (nodes P) p q zs (nodes-distinct P)
      (smallest_feasible p q (potential_of (nodes P) zs) (nodes-closed P fits) (smallest_at s))

  -- and potentials that pass it and that walks attain, from 0 at the start, are smallest
  pub pass_smallest : edges_ok_from P (nodes P) p q zs 0 (nodes P) ≡ true → potential_at zs 0 ≡ pos 0 →
      (i : ℕ) → i < length (nodes P) → {es : List Edge} → Walk P start (get_or (nodes P) i start) es → cost p q es ≡ potential_at zs i →
      Smallest P p q (get_or (nodes P) i start) (potential_at zs i)
  pass_smallest ok zero-at i h w e =
      let same = ap (potential_at zs) (number-get_or (nodes P) start (nodes-distinct P) i h) in
      subst (λ z. Smallest P p q (get_or (nodes P) i start) z) same
      (feasible_smallest p q (potential_of (nodes P) zs) (nodes-closed P fits) (start_in_nodes P) (pass_feasible P (nodes P) p q zs ok)
      (ap (potential_at zs) (number-start P) ∙ zero-at) w (e ∙ sym same))
