-- `fraction::Fraction::is_allowed` meets its contract: its tests are the definition's.
-- Assumes nothing.
use mathlib.Core.Path.{◌≡◌, refl, sym, ap, ◌∙◌}
use mathlib.Core.Bool.{Bool, false, ◌&&◌, ◌||◌, and-false, and-true, or-false}
use mathlib.Core.Logic.{◌⊎◌, ⊎_elim}
use borrow.Author.Tests.{le-leb, lt-leb, eq-eqb, ne_eqb}
use Prim.Native.Nat.{ℕ, ◌≤◌, ◌<◌}
use native.Mathlib.Omega.{arith}
use lib.Dec.{leb, eqb}
use Rattle.model.specs.Limits.{max_p, max_q}
use Rattle.model.specs.Check.{gcd, fraction_ok}
use Rattle.fraction.proofs.Fraction.is_allowed.Goals as goal

-- by the tests' results
by_tests : (p q : ℕ) {z a b c : Bool} → eqb q 0 ≡ z → leb p max_p ≡ a → leb 1 q ≡ b → leb q max_q ≡ c →
    fraction_ok p q ≡ ((eqb p 1 && z) || (eqb (gcd p q) 1 && a && b && c))
unfolding fraction_ok
by_tests p q z a b c = λ i. (eqb p 1 && z i) || (eqb (gcd p q) 1 && a i && b i && c i)

pub returns-then-q-eq0 : goal.returns-then-q-eq0
returns-then-q-eq0 c = let f = c.args.self in sym (by_tests f.p f.q (eq-eqb _ _ c.if-q-eq0.true) refl (lt-leb 1 f.q (omega arith)) refl ∙ simp (and-false, and-true, or-false))

-- a number past its limit
past_limit : (p q : ℕ) → (q ≡ 0 → ⊥) → (max_p < p) ⊎ ((p ≤ max_p) × (max_q < q)) → false ≡ fraction_ok p q
past_limit p q h =
    ⊎_elim
    (λ l. sym (by_tests p q (ne_eqb _ _ h) (lt-leb _ _ l) refl refl ∙ simp and-false))
    (λ l. sym (by_tests p q (ne_eqb _ _ h) refl refl (lt-leb _ _ l.1) ∙ simp and-false))

pub returns-then-p-gt-MAX_P : goal.returns-then-p-gt-MAX_P
returns-then-p-gt-MAX_P c = past_limit c.args.self.p c.args.self.q c.if-q-eq0.false c.then-p-gt-MAX_P.either

pub returns : goal.returns
returns c =
    let f = c.args.self in
    let h = c.if-q-eq0.false in
    ap (λ (n : ℕ). eqb n 1) c.gcd.ensures
    ∙ sym
    (by_tests f.p f.q (ne_eqb _ _ h) (le-leb _ _ c.if-p-gt-MAX_P.false) (le-leb 1 f.q (omega arith)) (le-leb _ _ c.if-q-gt-MAX_Q.false)
    ∙ simp (and-false, and-true))
