-- The cost of a walk, q × what it keeps less p × its ideal gain, and potentials that no edge lowers by more than its weight.
-- Assumes nothing.
use mathlib.Core.Path.{◌≡◌, sym, ◌∙◌, ap, ap₂, subst}
use mathlib.Core.List.{List, [], ◌∷◌, ◌++◌, Memᴰ}
use Prim.Native.Nat.{ℕ, ◌*◌}
use native.Mathlib.Nat.{mul-add, mul-zero}
use lib.IntN.{ℤ, pos, ◌+ℤ◌, ◌-ℤ◌, +ℤ_idr, +ℤ_assoc}
use lib.Signed.{◌≤ℤ◌, ≤ℤ_refl}
use Rattle.model.specs.Plan.{Plan}
use Rattle.model.specs.Graph.{Node, Edge, edges}
use Rattle.model.specs.Walk.{Walk, here, go, kept, ideal}
use Rattle.model.specs.Check.{weight}
use Rattle.model.specs.Solve.{cost}
use Rattle.words.proofs.Signed.{reach_trans}
use Rattle.theory.proofs.Integers.{sub_sums}
use Rattle.theory.proofs.Cycles.{sum_of-append}
use Rattle.theory.proofs.Nodes.{Closed}

module _ (p q : ℕ) where
  -- the empty walk costs nothing
  pub cost-none : cost p q [] ≡ pos 0
  cost-none = rw (mul-zero q, mul-zero p)

  -- two walks cost the sum of theirs
  pub cost-append : (es fs : List Edge) → cost p q (es ++ fs) ≡ cost p q es +ℤ cost p q fs
  cost-append es fs =
      ap₂ (λ (m n : ℕ). pos m -ℤ pos n)
      (ap (λ (n : ℕ). q * n) (sum_of-append (λ e. e.kept) es fs) ∙ mul-add q (kept es) (kept fs))
      (ap (λ (n : ℕ). p * n) (sum_of-append (λ e. e.ideal) es fs) ∙ mul-add p (ideal es) (ideal fs))
      ∙ sub_sums (q * kept es) (q * kept fs) (p * ideal es) (p * ideal fs)

  -- an edge costs its weight
  pub cost-cons : (e : Edge) (es : List Edge) → cost p q (e ∷ es) ≡ weight p q e +ℤ cost p q es
  cost-cons e es =
      ap₂ (λ (m n : ℕ). pos m -ℤ pos n) (mul-add q e.kept (kept es)) (mul-add p e.ideal (ideal es))
      ∙ sub_sums (q * e.kept) (q * kept es) (p * e.ideal) (p * ideal es)

  -- "on every edge from u to v, potential(u) + q × policy gain − p × clairvoyant gain ≥ potential(v)"
  abbrev pub Feasible : Plan → List Node → (Node → ℤ) → Type 0
  Feasible P ns φ = (u : Node) → Memᴰ u ns → (e : Edge) → Memᴰ e (edges P u) → φ e.to ≤ℤ (φ u +ℤ weight p q e)

  -- the same along a walk
  pub feasible_walk : {P : Plan} {ns : List Node} (φ : Node → ℤ) → Closed P ns → Feasible P ns φ →
      {u v : Node} {es : List Edge} → Memᴰ u ns → Walk P u v es → φ v ≤ℤ (φ u +ℤ cost p q es)
  feasible_walk φ c f {u} m here = subst (λ z. φ u ≤ℤ z) (sym (ap (λ z. φ u +ℤ z) cost-none ∙ +ℤ_idr (φ u))) (≤ℤ_refl (φ u))
  feasible_walk φ c f {u} {v} m (go {e = e} {es = es} k w) =
      subst (λ z. φ v ≤ℤ z) (+ℤ_assoc (φ u) (weight p q e) (cost p q es) ∙ ap (λ z. φ u +ℤ z) (sym (cost-cons e es)))
      (reach_trans (φ u) (weight p q e) (φ e.to) (cost p q es) (φ v) (f u m e k) (feasible_walk φ c f (c u m e k) w))
