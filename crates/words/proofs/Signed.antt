-- Integers by two naturals. `omega` reads no integer: it reads `up z` and `dn z`, z where it is positive and how far it is below zero, so that a
-- fact about sums and orders of integers is proved of these. The law of each sum, difference and order at hand goes into `omega`'s list, and
-- `≤ℤ_iff`, `<ℤ-iff` or `nat_eq` takes what `omega` shows back to the integers. Assumes nothing.
use mathlib.Core.Path.{◌≡◌, refl, sym, ap}
use mathlib.Core.Logic.{◌↔◌, ◌⊎◌, inl, inr}
use Prim.Native.Nat.{ℕ, zero, suc, ◌+◌, ◌≤◌, ◌<◌}
use native.Mathlib.Nat.{add-zero}
use native.Mathlib.Decide.{dec_lt}
use native.Mathlib.Omega.{arith}
use lib.Dec.{T, leb→le, le→leb, ltb→lt, lt→ltb}
use lib.IntN.{ℤ, pos, negsuc, neg_ℤ, nat_abs, sub_ℕ, ◌+ℤ◌, ◌-ℤ◌}
use lib.Signed.{mag, le_z, lt_z, ◌≤ℤ◌, ◌<ℤ◌}
use borrow.Author.Tests.{lt-ltb, le-ltb}

abbrev pub up : ℤ → ℕ
up (pos n) = n
up (negsuc n) = 0

abbrev pub dn : ℤ → ℕ
dn (pos n) = 0
dn (negsuc n) = suc n

-- one of the two is zero
pub up-or-dn : (z : ℤ) → (up z ≡ 0) ⊎ (dn z ≡ 0)
up-or-dn (pos n) = inr refl
up-or-dn (negsuc n) = inl refl

pub nat_eq : (a b : ℤ) → up a + dn b ≡ up b + dn a → a ≡ b
nat_eq (pos a) (pos b) h = ap pos (omega arith)
nat_eq (pos a) (negsuc b) h = absurd (omega arith)
nat_eq (negsuc a) (pos b) h = absurd (omega arith)
nat_eq (negsuc a) (negsuc b) h = ap negsuc (omega arith)

-- ---- the operations

pub up_neg : (z : ℤ) → up (neg_ℤ z) ≡ dn z
up_neg (pos zero) = refl
up_neg (pos (suc n)) = refl
up_neg (negsuc n) = refl

pub dn_neg : (z : ℤ) → dn (neg_ℤ z) ≡ up z
dn_neg (pos zero) = refl
dn_neg (pos (suc n)) = refl
dn_neg (negsuc n) = refl

-- the difference of two naturals
less : (a b : ℕ) → up (sub_ℕ a b) + b ≡ a + dn (sub_ℕ a b)
less a b = by (dec_lt a b)
  where
    by : Dec (a < b) → up (sub_ℕ a b) + b ≡ a + dn (sub_ℕ a b)
    by (yes h) = rw (lt-ltb a b h) (omega arith)
    by (no h) = rw (le-ltb a b (omega arith)) (omega arith)

pub up-add : (a b : ℤ) → up (a +ℤ b) + dn a + dn b ≡ up a + up b + dn (a +ℤ b)
up-add (pos a) (pos b) = omega arith
up-add (pos a) (negsuc b) = omega (arith, less a (suc b))
up-add (negsuc a) (pos b) = omega (arith, less b (suc a))
up-add (negsuc a) (negsuc b) = omega arith

pub up-sub : (a b : ℤ) → up (a -ℤ b) + dn a + up b ≡ up a + dn b + dn (a -ℤ b)
up-sub a b = omega (arith, up-add a (neg_ℤ b), up_neg b, dn_neg b)

pub nat_abs-is : (z : ℤ) → nat_abs z ≡ up z + dn z
nat_abs-is (pos n) = sym (add-zero n)
nat_abs-is (negsuc n) = omega arith

-- a signed width's range
pub mag_iff : (z : ℤ) (h : ℕ) → (mag z < h) ↔ ((up z < h) × (dn z ≤ h))
mag_iff (pos n) h = (λ l. (l, omega arith), λ p. p.0)
mag_iff (negsuc n) h = (λ l. (omega arith, omega arith), λ p. omega arith)

-- ---- the orders

pub le_z-iff : (a b : ℤ) → T (le_z a b) ↔ (up a + dn b ≤ up b + dn a)
le_z-iff (pos a) (pos b) = (λ t. omega (arith, leb→le a b t), λ h. le→leb a b (omega arith))
le_z-iff (pos a) (negsuc b) = (λ t. absurd t, λ h. absurd (omega arith))
le_z-iff (negsuc a) (pos b) = (λ t. omega arith, λ h. tt)
le_z-iff (negsuc a) (negsuc b) = (λ t. omega (arith, leb→le b a t), λ h. le→leb b a (omega arith))

pub lt_z-iff : (a b : ℤ) → T (lt_z a b) ↔ (up a + dn b < up b + dn a)
lt_z-iff (pos a) (pos b) = (λ t. omega (arith, ltb→lt a b t), λ h. lt→ltb a b (omega arith))
lt_z-iff (pos a) (negsuc b) = (λ t. absurd t, λ h. absurd (omega arith))
lt_z-iff (negsuc a) (pos b) = (λ t. omega arith, λ h. tt)
lt_z-iff (negsuc a) (negsuc b) = (λ t. omega (arith, ltb→lt b a t), λ h. lt→ltb b a (omega arith))

pub ≤ℤ_iff : (a b : ℤ) → (a ≤ℤ b) ↔ (up a + dn b ≤ up b + dn a)
≤ℤ_iff a b = (λ h. (le_z-iff a b).0 h.le, λ h. record { le = (le_z-iff a b).1 h })

pub <ℤ-iff : (a b : ℤ) → (a <ℤ b) ↔ (up a + dn b < up b + dn a)
<ℤ-iff a b = (λ h. (lt_z-iff a b).0 h.lt, λ h. record { lt = (lt_z-iff a b).1 h })

-- ---- uses

pub ≤ℤ_trans : {a b c : ℤ} → a ≤ℤ b → b ≤ℤ c → a ≤ℤ c
≤ℤ_trans {a} {b} {c} h k = (≤ℤ_iff a c).1 (omega (arith, (≤ℤ_iff a b).0 h, (≤ℤ_iff b c).0 k))

pub ≤ℤ_antisymm : {a b : ℤ} → a ≤ℤ b → b ≤ℤ a → a ≡ b
≤ℤ_antisymm {a} {b} h k = nat_eq a b (omega (arith, (≤ℤ_iff a b).0 h, (≤ℤ_iff b a).0 k))

pub +ℤ_mono : {a b c d : ℤ} → a ≤ℤ b → c ≤ℤ d → (a +ℤ c) ≤ℤ (b +ℤ d)
+ℤ_mono {a} {b} {c} {d} h k =
    (≤ℤ_iff (a +ℤ c) (b +ℤ d)).1 (omega (arith, (≤ℤ_iff a b).0 h, (≤ℤ_iff c d).0 k, up-add a c, up-add b d))

-- along a path: b is reached from a by w, and c from b by v
pub reach_trans : (a w b v c : ℤ) → b ≤ℤ (a +ℤ w) → c ≤ℤ (b +ℤ v) → c ≤ℤ (a +ℤ w +ℤ v)
reach_trans a w b v c h k =
    (≤ℤ_iff c (a +ℤ w +ℤ v)).1
    (omega (arith, (≤ℤ_iff b (a +ℤ w)).0 h, (≤ℤ_iff c (b +ℤ v)).0 k, up-add a w, up-add b v, up-add (a +ℤ w) v))
