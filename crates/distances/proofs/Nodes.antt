-- The nodes, tried one after another. Assumes nothing.
use mathlib.Core.Path.{◌≡◌, refl, sym, ap, subst, ◌∙◌}
use mathlib.Core.Bool.{Bool, true, false, ◌||◌, true≢false}
use mathlib.Core.List.{List, foldl, foldl-append}
use Prim.Native.Nat.{ℕ, ◌+◌, ◌<◌}
use lib.ListN.{length}
use native.Mathlib.Decide.{ℕ_discrete}
use native.Mathlib.Nat.{zero-add, not-suc-le-zero}
use native.Mathlib.Omega.{arith}
use Rattle.std.specs.Prelude.{Ok}
use Rattle.model.specs.Graph.{nodes}
use Rattle.model.specs.Lists.{up_from}
use Rattle.model.specs.Passes.{relax_node, pass}
use Rattle.model.specs.Plan.{Plan}
use Rattle.model.proofs.Lists.{up_from-append}
use Rattle.model.proofs.Plan.{or_neither}
use Rattle.potentials.specs.declared.Claim.{Claim}
use Rattle.links.specs.Links.{state_in}
use Rattle.distances.specs.Distances.{known_distances, SearchIn, Advance, RelaxesNode, Passes}
use Rattle.distances.proofs.Advances.{advance-none, advance-then}

-- what is not true is false
not-waiting : (b : Bool) → (b ≡ true → ⊥) → b ≡ false
not-waiting true n = absurd (n refl)
not-waiting false n = refl

-- the nodes below one were tried, and no circuit was found: without a move none of them waits
pub record TriedBelow (P : Plan) (claim : Claim) (node : ℕ) (before after : List ℕ) (moved : Bool) : Type 0 where
  pub advance : Advance P claim before after (Ok moved)
  pub taken : foldl (relax_node P claim.fraction.p claim.fraction.q) (known_distances claim before) (up_from 0 node) ≡ known_distances claim after
  pub tried : moved ≡ false → (x : ℕ) → x < node → (state_in after).waiting x ≡ false

module _ {P : Plan} {claim : Claim} where
  pub tried-none : {m : List ℕ} → SearchIn P claim m → TriedBelow P claim 0 m m false
  tried-none s = record { advance = advance-none s; taken = refl; tried = λ e x h. absurd (not-suc-le-zero h) }

  -- one node more
  pub tried-more : {u : ℕ} {m m' m'' : List ℕ} {moved moved' : Bool} → u < claim.n → TriedBelow P claim u m m' moved →
      RelaxesNode P claim u m' m'' (Ok moved') → TriedBelow P claim (u + 1) m m'' (moved || moved')
  tried-more {u} {m} {m'} {m''} {moved} {moved'} below b r = record {
    advance = advance-then b.advance r.advance;
    taken =
        ap (foldl (relax_node P claim.fraction.p claim.fraction.q) (known_distances claim m)) (up_from-append 0 u 1)
        ∙ foldl-append (relax_node P claim.fraction.p claim.fraction.q) (known_distances claim m) (up_from 0 u) (up_from (0 + u) 1)
        ∙ ap (λ ds. relax_node P claim.fraction.p claim.fraction.q ds (0 + u)) b.taken
        ∙ ap (relax_node P claim.fraction.p claim.fraction.q (known_distances claim m')) (zero-add u) ∙ r.taken;
    tried = λ e x h. let still = or_neither moved moved' e in by still.0 still.1 x h (ℕ_discrete x u);
  }
    where
      by : moved ≡ false → moved' ≡ false → (x : ℕ) → x < u + 1 → Dec (x ≡ u) → (state_in m'').waiting x ≡ false
      by e f x h (yes p) = subst (λ (y : ℕ). (state_in m'').waiting y ≡ false) (sym p) (r.tried f)
      by e f x h (no q) =
          not-waiting ((state_in m'').waiting x)
          (λ k. true≢false (sym (r.advance.progress.fresh f x (omega arith) k) ∙ b.tried e x (omega arith)))

  -- all nodes: a pass
  pub tried-all : {u : ℕ} {m m' : List ℕ} {moved : Bool} → TriedBelow P claim u m m' moved → u ≡ claim.n → length (nodes P) ≡ claim.n →
      Passes P claim m m' (Ok moved)
  unfolding pass
  tried-all {u} {m} b all count = record {
    advance = b.advance;
    passed = ap (λ (n : ℕ). foldl (relax_node P claim.fraction.p claim.fraction.q) (known_distances claim m) (up_from 0 n)) (count ∙ sym all) ∙ b.taken;
    quiet = λ f x h k. b.tried f x (omega (arith, h, all));
  }
