-- Adding the nodes of a label's edges is adding those of its patterns, each once, in the order of their first occurrence.
-- Assumes nothing.
use mathlib.Core.Path.{◌≡◌, refl, sym, ap, ◌∙◌}
use mathlib.Core.Bool.{Bool, true, false, cond}
use mathlib.Core.List.Memᴰ
use mathlib.Core.List.{List, [], ◌∷◌, ◌++◌, map, map-map, map-append, foldl, foldl-append}
use mathlib.Core.Option.{some}
use Prim.Native.Nat.{ℕ, ◌/◌}
use lib.Dec.{eqb}
use Rattle.model.specs.Discovery.{among, add}
use Rattle.model.specs.Graph.{Node, choices, joined, edge_of, edges_to, same_node}
use Rattle.model.specs.Plan.{Plan}
use Rattle.model.specs.Slot.{slot}
use Rattle.model.proofs.Tests.{same_number}
use Rattle.model.proofs.Discovery.{among-mem, fold-holds}
use Rattle.theory.proofs.Nodes.{same-node}
use Rattle.graph.proofs.Outcomes.{firsts}

module _ (f : ℕ → Node) (ns : List Node) where
  abbrev with_all : List ℕ → List Node
  with_all l = foldl (add same_node) ns (map f l)

  -- a repeat adds nothing
  once : (l : List ℕ) (p : ℕ) → with_all (add eqb l p) ≡ add same_node (with_all l) (f p)
  once l p = by (among eqb p l) refl
    where
      by : (b : Bool) → among eqb p l ≡ b → with_all (cond b l (l ++ (p ∷ []))) ≡ add same_node (with_all l) (f p)
      by true e =
          let there = fold-holds same_node same-node (map f l) ns (f p) (Memᴰ.map f ((among-mem eqb same_number p l).0 e)) in
          sym (ap (λ (b : Bool). cond b (with_all l) (with_all l ++ (f p ∷ []))) ((among-mem same_node same-node (f p) (with_all l)).1 there))
      by false e = ap (foldl (add same_node) ns) (map-append f l (p ∷ [])) ∙ foldl-append (add same_node) ns (map f l) (f p ∷ [])

  once-all : (ps l : List ℕ) → with_all (foldl (add eqb) l ps) ≡ foldl (add same_node) (with_all l) (map f ps)
  once-all [] l = refl
  once-all (p ∷ ps) l = once-all ps (add eqb l p) ∙ ap (λ (vs : List Node). foldl (add same_node) vs (map f ps)) (once l p)

-- the nodes of a label's edges, added over its patterns
pub add-patterns : (P : Plan) (u : Node) (l s : ℕ) (ns : List Node) →
    foldl (add same_node) ns (map (λ e. e.to) (edges_to P u l (some s)))
    ≡ foldl (add same_node) ns (map (λ p. record { jobs = (slot P u.jobs l).jobs; taken = p; state = s }) (firsts (map (λ ms. joined u.taken ms / 2) (choices P.tasks l u.taken))))
unfolding edge_of firsts
add-patterns P u l s ns =
    ap (foldl (add same_node) ns) (map-map (λ e. e.to) (edge_of P u l s) cs ∙ sym (map-map node pattern cs))
    ∙ sym (once-all node ns (map pattern cs) [])
  where
    cs : List (List ℕ)
    cs = choices P.tasks l u.taken

    node : ℕ → Node
    node p = record { jobs = (slot P u.jobs l).jobs; taken = p; state = s }

    pattern : List ℕ → ℕ
    pattern ms = joined u.taken ms / 2
