-- Laws of two's complement at 64 bits. Assumes nothing.
use mathlib.Core.Path.{◌≡◌, refl, ap, ◌∙◌}
use mathlib.Core.Bool.{true, false}
use Prim.Native.Nat.{ℕ, zero, suc, ◌-◌, ◌^◌, ◌≤◌, ◌<◌}
use native.Mathlib.Nat.{zero-add}
use native.Mathlib.Decide.{dec_lt}
use native.Mathlib.Omega.{arith}
use lib.IntN.{ℤ, pos, negsuc, ◌-ℤ◌}
use lib.Signed.{mag, lt_z}
use borrow.Author.Tests.{lt-ltb, le-ltb, ltb-true}
use Rattle.model.specs.Bytes.{signed, complement}

pub signed_low : (n : ℕ) → n < 2 ^ 63 → signed n ≡ pos n
unfolding signed
signed_low n h = rw (lt-ltb n (2 ^ 63) h)

pub signed_high : (n : ℕ) → 2 ^ 63 ≤ n → signed n ≡ negsuc (2 ^ 64 - 1 - n)
unfolding signed
signed_high n h = rw (le-ltb n (2 ^ 63) h)

pub signed-complement : (z : ℤ) → mag z < 2 ^ 63 → signed (complement z) ≡ z
unfolding complement
signed-complement (pos n) h = signed_low n h
signed-complement (negsuc n) h =
    let back : 2 ^ 64 - 1 - (2 ^ 64 - 1 - n) ≡ n = omega arith in
    signed_high (2 ^ 64 - 1 - n) (omega arith) ∙ ap negsuc back

pub complement-signed : (n : ℕ) → n < 2 ^ 64 → complement (signed n) ≡ n
unfolding complement
complement-signed n h = by (dec_lt n (2 ^ 63))
  where
    by : Dec (n < 2 ^ 63) → complement (signed n) ≡ n
    by (yes low) = ap complement (signed_low n low)
    by (no high) = ap complement (signed_high n (omega arith)) ∙ omega arith

pub complement-lt : (z : ℤ) → mag z < 2 ^ 63 → complement z < 2 ^ 64
unfolding complement
complement-lt (pos n) h = omega arith
complement-lt (negsuc n) h = omega arith

-- minus one less z
pub not-pos : (n : ℕ) → negsuc 0 -ℤ pos n ≡ negsuc n
not-pos zero = refl
not-pos (suc n) = ap (λ (x : ℕ). negsuc (suc x)) (zero-add n)

pub not_negsuc : (n : ℕ) → negsuc 0 -ℤ negsuc n ≡ pos n
not_negsuc n = rw (le-ltb (suc n) 1 (omega arith)) (ap pos (omega arith))

-- by its sign
pub below-zero : (z : ℤ) → lt_z z (pos 0) ≡ true → z ≡ negsuc (mag z)
below-zero (pos n) t = let h : n < 0 = ltb-true n 0 t in absurd (omega arith)
below-zero (negsuc n) t = refl

pub not-below-zero : (z : ℤ) → lt_z z (pos 0) ≡ false → z ≡ pos (mag z)
not-below-zero (pos n) t = refl
not-below-zero (negsuc n) t = cc
