-- The share in thousandths is the print rule's, and the only one that is.
-- Assumes nothing.
use mathlib.Core.Path.{◌≡◌, refl, sym, ◌∙◌, ap, subst}
use mathlib.Core.Bool.{Bool, true, false, cond, ◌&&◌, ◌||◌}
use mathlib.Core.Option.{Option, some}
use Prim.Native.Nat.{ℕ, zero, suc, ◌+◌, ◌*◌, ◌/◌, ◌%◌, ◌<◌, ◌≤◌}
use native.Mathlib.Decide.{dec_le}
use native.Mathlib.Omega.{arith}
use native.Mathlib.Nat.{mod-lt, div-add-mod', add-mul, mul-le-mul_right}
use lib.Dec.{ltb, eqb}
use borrow.Author.Tests.{ltb-true, ltb-false, eqb-true, eqb-false, lt-ltb, le-ltb}
use Rattle.model.specs.Thousandths.{rounded, thousandths, Nearest, Printed}
use Rattle.theory.proofs.Integers.{nat_abs-sub}

-- the test by one comparison: with an odd quotient the half itself is enough
pub one-test : (d t w : ℕ) → (ltb d t || (eqb t d && eqb (w % 2) 1)) ≡ ltb d (t + w % 2)
one-test d t w = by (ltb d t) refl (eqb t d) refl (eqb (w % 2) 1) refl
  where
    by : (a : Bool) → ltb d t ≡ a → (b : Bool) → eqb t d ≡ b → (c : Bool) → eqb (w % 2) 1 ≡ c → (a || (b && c)) ≡ ltb d (t + w % 2)
    by true e b f c g = sym (lt-ltb d (t + w % 2) (omega (arith, ltb-true d t e)))
    by false e true f true g = sym (lt-ltb d (t + w % 2) (omega (arith, eqb-true t d f, eqb-true (w % 2) 1 g)))
    by false e true f false g = sym (le-ltb d (t + w % 2) (omega (arith, eqb-true t d f, eqb-false (w % 2) 1 g)))
    by false e false f c g = sym (le-ltb d (t + w % 2) (omega (arith, ltb-false d t e, eqb-false t d f)))

-- what is rounded is the nearest, a half the even
pub rounded-nearest : (n d : ℕ) → 0 < d → Nearest n d (rounded n d)
rounded-nearest n d h = subst (λ b. Nearest n d (cond b (n / d + 1) (n / d))) (sym (one-test d (2 * (n % d)) (n / d))) (by (ltb d (2 * (n % d) + n / d % 2)) refl)
  where
    by : (b : Bool) → ltb d (2 * (n % d) + n / d % 2) ≡ b → Nearest n d (cond b (n / d + 1) (n / d))
    by true e =
        let past = ltb-true d (2 * (n % d) + n / d % 2) e in
        let off = nat_abs-sub n ((n / d + 1) * d) in
        record {
          near = omega (arith, past, off, add-mul (n / d) 1 d, div-add-mod' n d, mod-lt n h);
          even = λ s. omega (arith, past, off, add-mul (n / d) 1 d, div-add-mod' n d, mod-lt n h);
        }
    by false e =
        let before = ltb-false d (2 * (n % d) + n / d % 2) e in
        let off = nat_abs-sub n (n / d * d) in
        record { near = omega (arith, before, off, div-add-mod' n d); even = λ s. omega (arith, before, off, div-add-mod' n d) }

-- of two that are the nearest the second is not the greater: it would be the next one, as far away, and both even
at_most : (n d a b : ℕ) → 0 < d → Nearest n d a → Nearest n d b → b ≤ a
at_most n d a b h x y = by (dec_le b a)
  where
    by : Dec (b ≤ a) → b ≤ a
    by (yes l) = l
    by (no l) =
        let at_a = nat_abs-sub n (a * d) in
        let at_b = nat_abs-sub n (b * d) in
        let next : (a + 1) * d ≤ b * d = mul-le-mul_right d (omega arith) in
        let even-a : a % 2 ≡ 0 = x.even (omega (arith, at_a, at_b, x.near, y.near, add-mul a 1 d)) in
        let even-b : b % 2 ≡ 0 = y.even (omega (arith, at_a, at_b, x.near, y.near, add-mul a 1 d)) in
        let further : (a + 2) * d ≤ b * d = mul-le-mul_right d (omega arith) in
        absurd (omega (arith, at_a, at_b, x.near, y.near, add-mul a 2 d))

-- two that are the nearest are the same
pub nearest-once : (n d a b : ℕ) → 0 < d → Nearest n d a → Nearest n d b → a ≡ b
nearest-once n d a b h x y = omega (arith, at_most n d a b h x y, at_most n d b a h y x)

-- what stands for a share is what is printed
pub thousandths_printed : (p q : ℕ) → Printed p q (thousandths p q)
unfolding thousandths
thousandths_printed p zero = record { nothing = λ e. refl; nearest = λ l. absurd (omega arith) }
thousandths_printed p (suc q) = record {
  nothing = λ e. absurd (omega arith);
  nearest = λ l. (rounded (1000 * p) (suc q), refl, rounded-nearest (1000 * p) (suc q) l);
}

-- and nothing else may stand for it
pub printed_once : (p q : ℕ) (m : Option ℕ) → Printed p q m → m ≡ thousandths p q
unfolding thousandths
printed_once p zero m x = x.nothing refl
printed_once p (suc q) m x =
    let (k, e, near) = x.nearest (omega arith) in
    e ∙ ap some (nearest-once (1000 * p) (suc q) k (rounded (1000 * p) (suc q)) (omega arith) near (rounded-nearest (1000 * p) (suc q) (omega arith)))
