-- A value of one byte or two.
-- Assumes nothing.
use mathlib.Core.Path.{◌≡◌}
use mathlib.Core.Logic.{◌⊎◌, inl, inr}
use Prim.Native.Nat.{ℕ, ◌≤◌}
use native.Mathlib.Omega.{arith}

module _ {w : ℕ} where
  pub two_at-most : (w ≡ 1) ⊎ (w ≡ 2) → w ≤ 2
  two_at-most (inl e) = omega arith
  two_at-most (inr e) = omega arith

  -- a width that is not 1 is 2
  pub two_else : (w ≡ 1) ⊎ (w ≡ 2) → (w ≡ 1 → ⊥) → w ≡ 2
  two_else (inl e) n = absurd (n e)
  two_else (inr e) n = e
