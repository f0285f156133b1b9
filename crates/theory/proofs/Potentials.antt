-- Potentials that the checker accepts bound every walk from the start.
-- Assumes nothing.
use mathlib.Core.Path.{◌≡◌, refl, sym, ◌∙◌, subst}
use mathlib.Core.Bool.{Bool, true, false, cond}
use mathlib.Core.Logic.{◌↔◌, ⊎_elim}
use mathlib.Core.List.Memᴰ
use mathlib.Core.List.{List, [], ◌∷◌, Memᴰ}
use Prim.Native.Nat.{ℕ, zero, suc, ◌+◌, ◌*◌, ◌<◌, ◌≤◌}
use native.Mathlib.Nat.{zero-add, add-zero, not-suc-le-zero, le_of_suc-le-suc}
use native.Mathlib.Omega.{arith}
use lib.IntN.{ℤ, pos, ◌+ℤ◌}
use lib.ListN.{length, get_or}
use lib.Signed.{le_z, ◌≤ℤ◌, ≤ℤ_refl, le_z_yes}
use Rattle.model.specs.Lists.{all}
use Rattle.model.specs.Plan.{Plan}
use Rattle.model.specs.Discovery.{number_in}
use Rattle.model.specs.Graph.{Node, Edge, start, edges, nodes, too_large, same_node}
use Rattle.model.specs.Walk.{Walk, kept, ideal}
use Rattle.model.specs.Check.{potential_at, within_limit, weight, edge_ok, edges_ok_from, potentials_ok, least, allowance}
use Rattle.model.proofs.Lists.{mem-get_or}
use Rattle.model.proofs.Plan.{both}
use Rattle.words.proofs.Signed.{≤ℤ_trans}
use Rattle.theory.proofs.Integers.{le_z-not, gap, budget}
use Rattle.model.proofs.Tests.{is_true, holds, true-and, all-each}
use Rattle.model.proofs.Distinct.{Distinct}
use Rattle.theory.proofs.Nodes.{number_at, number-get_or, start_in_nodes, number-start, nodes-closed, walk_in_nodes}
use Rattle.theory.proofs.Costs.{Feasible, feasible_walk}

-- a node's potential
abbrev pub potential_of : List Node → List ℤ → Node → ℤ
potential_of ns zs v = potential_at zs (number_in same_node ns v)

module _ (P : Plan) (ns : List Node) (p q : ℕ) (zs : List ℤ) where
  -- every edge of these nodes passes; the first of them is numbered u
  abbrev EdgesPass : ℕ → List Node → Type 0
  EdgesPass u vs =
      (i : ℕ) → i < length vs → (e : Edge) → Memᴰ e (edges P (get_or vs i start)) → edge_ok ns p q zs (u + i) e ≡ true

  -- one node more
  edges-cons : (u : ℕ) (v : Node) (vs : List Node) → (edges_ok_from P ns p q zs (suc u) vs ≡ true) ↔ EdgesPass (suc u) vs →
      (edges_ok_from P ns p q zs u (v ∷ vs) ≡ true) ↔ EdgesPass u (v ∷ vs)
  edges-cons u v vs later = (
    λ h. let two = both here rest h in each ((all-each test (edges P v)).0 two.0) (later.0 two.1),
    λ h. true-and here rest ((all-each test (edges P v)).1 (λ e m. first h e m)) (later.1 (λ i l e m. next h i l e m)),
  )
    where
      test : Edge → Bool
      test = edge_ok ns p q zs u

      here : Bool
      here = all test (edges P v)

      rest : Bool
      rest = edges_ok_from P ns p q zs (suc u) vs

      at : {m n : ℕ} (e : Edge) → m ≡ n → edge_ok ns p q zs m e ≡ true → edge_ok ns p q zs n e ≡ true
      at e p' h = subst (λ n. edge_ok ns p q zs n e ≡ true) p' h

      each : ((e : Edge) → Memᴰ e (edges P v) → test e ≡ true) → EdgesPass (suc u) vs → EdgesPass u (v ∷ vs)
      each f g zero l e m = at e (sym (add-zero u)) (f e m)
      each f g (suc i) l e m = at e (omega arith) (g i (le_of_suc-le-suc l) e m)

      first : EdgesPass u (v ∷ vs) → (e : Edge) → Memᴰ e (edges P v) → test e ≡ true
      first h e m = at e (add-zero u) (h 0 (omega arith) e m)

      next : EdgesPass u (v ∷ vs) → EdgesPass (suc u) vs
      next h i l e m = at e (omega arith) (h (suc i) (omega arith) e m)

  -- the test of the nodes is the test of each
  edges-each : (u : ℕ) (vs : List Node) → (edges_ok_from P ns p q zs u vs ≡ true) ↔ EdgesPass u vs
  edges-each u [] = (λ h i l. absurd (not-suc-le-zero l), λ h. refl)
  edges-each u (v ∷ vs) = edges-cons u v vs (edges-each (suc u) vs)

  -- the test of an edge is its inequality
  edge-each : (u : ℕ) (e : Edge) → (edge_ok ns p q zs u e ≡ true) ↔ (potential_of ns zs e.to ≤ℤ (potential_at zs u +ℤ weight p q e))
  edge-each u e = (λ h. le_z_yes (holds h), λ h. is_true _ h.le)

  -- edges that pass keep the potentials
  pub pass_feasible : edges_ok_from P ns p q zs 0 ns ≡ true → Feasible p q P ns (potential_of ns zs)
  pass_feasible h u m e k =
      let r = number_at ns u start m in
      (edge-each (number_in same_node ns u) e).0
      (subst (λ n. edge_ok ns p q zs n e ≡ true) (zero-add (number_in same_node ns u))
      ((edges-each 0 ns).0 h (number_in same_node ns u) r.0 e (subst (λ n. Memᴰ e (edges P n)) (sym r.1) k)))

  -- and the other way round
  pub feasible_pass : Distinct ns → Feasible p q P ns (potential_of ns zs) → edges_ok_from P ns p q zs 0 ns ≡ true
  feasible_pass d f =
      (edges-each 0 ns).1
      (λ i l e m.
      subst (λ n. edge_ok ns p q zs n e ≡ true) (number-get_or ns start d i l ∙ sym (zero-add i))
      ((edge-each (number_in same_node ns (get_or ns i start)) e).1 (f (get_or ns i start) (mem-get_or ns i start l) e m)))

-- ---- the allowance

-- the least is at most the first
least_first : (zs : List ℤ) (m : ℤ) → least zs m ≤ℤ m
least_first [] m = ≤ℤ_refl m
least_first (z ∷ zs) m = go (le_z z m) refl (λ n. least_first zs n)
  where
    go : (b : Bool) → le_z z m ≡ b → ((n : ℤ) → least zs n ≤ℤ n) → least zs (cond b z m) ≤ℤ m
    go true e f = ≤ℤ_trans (f z) (le_z_yes (holds e))
    go false e f = f m

-- and at most any other
least-each : (zs : List ℤ) (m : ℤ) {z : ℤ} → Memᴰ z zs → least zs m ≤ℤ z
least-each [] m k = absurd (Memᴰ.not-nil k)
least-each (y ∷ zs) m {z} k =
    ⊎_elim (λ e. subst (λ x. least (y ∷ zs) m ≤ℤ x) (sym e) (≤ℤ_trans (least_first zs (cond (le_z y m) y m)) (smaller (le_z y m) refl)))
    (λ j. least-each zs (cond (le_z y m) y m) j) (Memᴰ.cases_cons k)
  where
    smaller : (b : Bool) → le_z y m ≡ b → cond b y m ≤ℤ y
    smaller true e = ≤ℤ_refl y
    smaller false e = le_z-not y m e

-- "K is the start node's potential less the smallest": so it is at most any other with K
pub allowance-each : (zs : List ℤ) (i : ℕ) → i < length zs → potential_at zs 0 ≤ℤ (potential_at zs i +ℤ pos (allowance zs))
unfolding allowance
allowance-each zs i h =
    gap (potential_at zs 0) (least zs (potential_at zs 0)) (potential_at zs i)
    (least-each zs (potential_at zs 0) (mem-get_or zs i (pos 0) h))

-- ---- the bound

-- every walk from the start keeps the fraction p/q of its ideal gain, but for the allowance
pub walk_keeps : (P : Plan) (p q : ℕ) (zs : List ℤ) → too_large P ≡ false → length zs ≡ length (nodes P) →
    potentials_ok P (nodes P) p q zs ≡ true →
    {v : Node} {es : List Edge} → Walk P start v es → p * ideal es ≤ q * kept es + allowance zs
unfolding potentials_ok
walk_keeps P p q zs fits size ok {v} {es} w =
    budget (φ start) (φ v) (q * kept es) (p * ideal es) (allowance zs)
    (feasible_walk p q φ (nodes-closed P fits) feasible (start_in_nodes P) w)
    (subst (λ n. potential_at zs n ≤ℤ (φ v +ℤ pos (allowance zs))) (sym (number-start P))
    (allowance-each zs (number_in same_node (nodes P) v) (omega (arith, (number_at (nodes P) v start (walk_in_nodes P fits w)).0))))
  where
    φ : Node → ℤ
    φ = potential_of (nodes P) zs

    feasible : Feasible p q P (nodes P) φ
    feasible = pass_feasible P (nodes P) p q zs (both (all within_limit zs) (edges_ok_from P (nodes P) p q zs 0 (nodes P)) ok).1
