-- Fractions p/q that fall: how many falls are left, and a fraction in lowest terms.
-- Assumes nothing.
use mathlib.Core.Path.{◌≡◌, sym, ◌∙◌, ap, subst₂}
use mathlib.Core.Bool.{true, ◌&&◌, ◌||◌, or-true}
use Prim.Native.Nat.{ℕ, zero, suc, ◌+◌, ◌*◌, ◌/◌, ◌<◌, ◌≤◌}
use native.Mathlib.Nat.{suc-mul, add-mul, mul_comm, mul_assoc, mul_left_comm, mul_right_comm, mul-zero, mul-le-mul, mul-le-mul_right, le_of_mul-le-mul_right, lt_of_mul-lt-mul_left, div-le_self, div-mul-le_self, le-div_iff_mul-le}
use native.Mathlib.Omega.{arith}
use lib.Dec.{eqb, leb}
use borrow.Author.Tests.{eq-eqb, le-leb}
use Rattle.model.specs.Limits.{max_p, max_q}
use Rattle.model.specs.Check.{gcd, fraction_ok}
use Rattle.model.proofs.Tests.{true-and}
use Rattle.theory.proofs.Divisors.{gcd-times, gcd-pos-right, gcd_reduced}

-- ---- how many falls are left

-- p/q in parts so small that two fractions with denominators of at most b differ by one; 1/0 is above all with numerators of at most a
abbrev pub parts_in : ℕ → ℕ → ℕ → ℕ → ℕ
parts_in a b p zero = a * (b * b) + 1
parts_in a b p (suc q) = p * (b * b) / suc q

-- a smaller fraction has fewer parts
pub parts_less : (a b p q p' q' : ℕ) → 0 < q' → q' ≤ b → p' ≤ a → q ≤ b → q * p' < p * q' → parts_in a b p' q' < parts_in a b p q
parts_less a b p q p' zero h k m l f = absurd (omega arith)
parts_less a b p zero p' (suc q') h k m l f =
    omega (arith, div-le_self (p' * (b * b)) (suc q'), mul-le-mul_right (b * b) m)
parts_less a b p (suc q) p' (suc q') h k m l f =
    let some : 0 < suc q = omega arith in
    (le-div_iff_mul-le some).1 (le_of_mul-le-mul_right scaled h)
  where
    s : ℕ
    s = b * b

    r : ℕ
    r = suc q

    r' : ℕ
    r' = suc q'

    d : ℕ
    d = p' * s / r'

    apart : suc d * r * r' ≡ d * r' * r + r * r'
    apart = ap (λ (x : ℕ). x * r') (suc-mul d r) ∙ add-mul (d * r) r r' ∙ ap (λ (x : ℕ). x + r * r') (mul_right_comm d r r')

    regroup : suc (r * p') * s ≡ p' * s * r + s
    regroup = suc-mul (r * p') s ∙ ap (λ (x : ℕ). x + s) (mul_assoc r p' s ∙ mul_comm r (p' * s))

    scaled : suc d * r * r' ≤ p * s * r'
    scaled =
        let below : d * r' * r ≤ p' * s * r = mul-le-mul_right r (div-mul-le_self (p' * s) r') in
        let small : r * r' ≤ s = mul-le-mul l k in
        let gap : suc (r * p') * s ≤ p * r' * s = mul-le-mul_right s f in
        omega (arith, apart, regroup, below, small, gap, mul_right_comm p r' s)

-- the falls that are left at p/q
unfoldable pub fraction_left : ℕ → ℕ → ℕ
fraction_left p q = parts_in max_p max_q p q

pub fraction-less : (p q p' q' : ℕ) → 0 < q' → q' ≤ max_q → p' ≤ max_p → q ≤ max_q → q * p' < p * q' → fraction_left p' q' < fraction_left p q
unfolding fraction_left
fraction-less = parts_less max_p max_q

-- ---- lowest terms

module _ (a b : ℕ) where
  abbrev g : ℕ
  g = gcd a b

  -- the denominator in lowest terms is above 0
  pub lowest-pos : 0 < b → 0 < b / gcd a b
  lowest-pos some = by (b / g) (gcd-times a b).1
    where
      by : (q : ℕ) → g * q ≡ b → 0 < q
      by zero e = absurd (omega (arith, mul-zero g))
      by (suc q) e = omega arith

  -- the value is the same
  pub lowest-exact : (a / gcd a b) * b ≡ (b / gcd a b) * a
  lowest-exact =
      let p = a / g in
      let q = b / g in
      ap (λ (x : ℕ). p * x) (sym (gcd-times a b).1) ∙ mul_left_comm p g q ∙ ap (λ (x : ℕ). g * x) (mul_comm p q) ∙ mul_left_comm g q p
      ∙ ap (λ (x : ℕ). q * x) (gcd-times a b).0

  -- so what is above it stays above it
  pub lowest-less : (p q : ℕ) → q * a < p * b → q * (a / gcd a b) < p * (b / gcd a b)
  lowest-less p q h =
      lt_of_mul-lt-mul_left g
      (subst₂ (λ (x y : ℕ). x < y) (ap (λ (x : ℕ). q * x) (sym (gcd-times a b).0) ∙ mul_left_comm q g (a / g))
      (ap (λ (x : ℕ). p * x) (sym (gcd-times a b).1) ∙ mul_left_comm p g (b / g)) h)

  -- a certificate may give it
  pub lowest-ok : 0 < b → a ≤ max_p → b ≤ max_q → fraction_ok (a / gcd a b) (b / gcd a b) ≡ true
  unfolding fraction_ok
  lowest-ok some h k =
      let p = a / g in
      let q = b / g in
      let one = eq-eqb (gcd p q) 1 (gcd_reduced a b (gcd-pos-right a b some)) in
      let top = le-leb p max_p (omega (arith, div-le_self a g)) in
      let above = le-leb 1 q (omega (arith, lowest-pos some)) in
      let bottom = le-leb q max_q (omega (arith, div-le_self b g)) in
      ap (λ x. (eqb p 1 && eqb q 0) || x)
      (true-and (eqb (gcd p q) 1 && leb p max_p && leb 1 q) (leb q max_q)
      (true-and (eqb (gcd p q) 1 && leb p max_p) (leb 1 q) (true-and (eqb (gcd p q) 1) (leb p max_p) one top) above) bottom)
      ∙ or-true (eqb p 1 && eqb q 0)
