-- Potentials and weights: their sizes, the sums in the code's order, and the order of gains. Assumes nothing.
use mathlib.Core.Path.{◌≡◌, sym, ap₂, subst, ◌∙◌}
use mathlib.Core.Bool.{true}
use mathlib.Core.Logic.{◌⊎◌, inl, inr}
use Prim.Native.Nat.{ℕ, ◌+◌, ◌*◌, ◌^◌, ◌≤◌, ◌<◌}
use native.Mathlib.Nat.{mul-le-mul, mul-le-mul_left, le_of_lt}
use native.Mathlib.Omega.{arith}
use lib.IntN.{ℤ, pos, neg_ℤ, nat_abs, ◌+ℤ◌, ◌-ℤ◌, +ℤ_assoc}
use lib.Signed.{le_z}
use mir.Syntax.{w64}
use mir.Val.{SFits, to_z, of_z}
use mir.Facts.{to_z-of_z}
use Rattle.model.specs.Limits.{max_q, max_potential}
use Rattle.model.proofs.Tests.{is_true, holds}
use Rattle.words.proofs.Signed.{up, dn, up-or-dn, up-add, up-sub, nat_abs-is, mag_iff, le_z-iff}
use Rattle.potentials.specs.Potentials.{max_charge, max_high}

-- ---- sizes

pub charge_small : (price gain : ℕ) → price ≤ max_q → gain < 2 ^ 32 → price * gain ≤ max_charge
charge_small price gain low small = mul-le-mul low (le_of_lt small)

-- a difference of two naturals is within any bound of both
within : (z : ℤ) (a b bound : ℕ) → up z + b ≡ a + dn z → a ≤ bound → b ≤ bound → nat_abs z ≤ bound
within z a b bound e h k = by (up-or-dn z)
  where
    by : (up z ≡ 0) ⊎ (dn z ≡ 0) → nat_abs z ≤ bound
    by (inl o) = omega (arith, nat_abs-is z)
    by (inr o) = omega (arith, nat_abs-is z)

fits : (z : ℤ) → nat_abs z < 2 ^ 63 → SFits w64 z
fits z h = record { sfits = (mag_iff z (2 ^ 63)).1 (omega (arith, nat_abs-is z)) }

module _ (z : ℤ) (a : ℕ) (small : a ≤ max_charge) where
  -- a potential with the policy's weight
  pub high_small : nat_abs z ≤ max_potential → nat_abs (z +ℤ pos a) ≤ max_high
  high_small h = within (z +ℤ pos a) (up z + a) (dn z) max_high (omega (arith, up-add z (pos a))) (omega (arith, nat_abs-is z)) (omega (arith, nat_abs-is z))

  pub high_fits : nat_abs z ≤ max_potential → SFits w64 (z +ℤ pos a)
  high_fits h = fits (z +ℤ pos a) (omega (arith, high_small h))

  -- the same less the clairvoyant's
  pub bound_fits : nat_abs z ≤ max_high → SFits w64 (z -ℤ pos a)
  bound_fits h =
      fits (z -ℤ pos a)
      (omega (arith, within (z -ℤ pos a) (up z) (dn z + a) (max_high + max_charge) (omega (arith, up-sub z (pos a))) (omega (arith, nat_abs-is z)) (omega (arith, nat_abs-is z))))

-- ---- values as they are stored

-- a difference
pub bound-is : (high : ℤ) (p gain : ℕ) {t : ℤ} → SFits w64 high → SFits w64 t → t ≡ pos (p * gain) → p ≤ max_q → gain < 2 ^ 32 → nat_abs high ≤ max_high →
    to_z w64 (of_z w64 (to_z w64 (of_z w64 high) -ℤ to_z w64 (of_z w64 t))) ≡ high -ℤ pos (p * gain)
bound-is high p gain {t} fits_high fits_t is low few small =
    let e : to_z w64 (of_z w64 high) -ℤ to_z w64 (of_z w64 t) ≡ high -ℤ pos (p * gain) =
    ap₂ (λ y z. y -ℤ z) (to_z-of_z {w = w64} fits_high) (to_z-of_z {w = w64} fits_t ∙ is) in
    to_z-of_z {w = w64} (subst (SFits w64) (sym e) (bound_fits high (p * gain) (charge_small p gain low few) small)) ∙ e

-- and a sum
pub high-is : (z : ℤ) (q gain : ℕ) {v t : ℤ} → SFits w64 v → SFits w64 t → v ≡ z → t ≡ pos (q * gain) → q ≤ max_q → gain < 2 ^ 32 → nat_abs z ≤ max_potential →
    to_z w64 (of_z w64 (to_z w64 (of_z w64 v) +ℤ to_z w64 (of_z w64 t))) ≡ z +ℤ pos (q * gain)
high-is z q gain {v} {t} fits_v fits_t first second low few small =
    let e : to_z w64 (of_z w64 v) +ℤ to_z w64 (of_z w64 t) ≡ z +ℤ pos (q * gain) =
    ap₂ (λ y z. y +ℤ z) (to_z-of_z {w = w64} fits_v ∙ first) (to_z-of_z {w = w64} fits_t ∙ second) in
    to_z-of_z {w = w64} (subst (SFits w64) (sym e) (high_fits z (q * gain) (charge_small q gain low few) small)) ∙ e

-- ---- orders

-- the weight's first part is added first
pub weight-order : (z : ℤ) (a b : ℕ) → (z +ℤ pos a) -ℤ pos b ≡ z +ℤ (pos a -ℤ pos b)
weight-order z a b = +ℤ_assoc z (pos a) (neg_ℤ (pos b))

-- what is at most a number with a greater charge is at most that with a smaller one
pub less_charge : (y z : ℤ) (a p g h : ℕ) → g ≤ h → le_z y (z +ℤ (pos a -ℤ pos (p * h))) ≡ true → le_z y (z +ℤ (pos a -ℤ pos (p * g))) ≡ true
less_charge y z a p g h le ok =
    is_true (le_z y (z +ℤ (pos a -ℤ pos (p * g))))
    ((le_z-iff y (z +ℤ (pos a -ℤ pos (p * g)))).1
    (omega (
      arith,
      (le_z-iff y (z +ℤ (pos a -ℤ pos (p * h)))).0 (holds ok),
      up-add z (pos a -ℤ pos (p * g)),
      up-add z (pos a -ℤ pos (p * h)),
      up-sub (pos a) (pos (p * g)),
      up-sub (pos a) (pos (p * h)),
      mul-le-mul_left p le,
    )))
