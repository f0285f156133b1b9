-- The share as the data sheet prints it, in thousandths.
use Rattle.std.specs.Prelude.{◌≡◌, ℕ, zero, suc, ◌+◌, ◌*◌, ◌/◌, ◌%◌, ◌<◌, ◌≤◌, cond, ◌&&◌, ◌||◌, ltb, eqb, pos, ◌-ℤ◌, nat_abs}
use Rattle.std.proofs.Math.Option.{Option, none, some}

-- n/d, "nearest, with an exact half going to the even": one more than the quotient where the rest is above the half of d, or is just that
-- and the quotient odd. "The half is found in whole numbers."
abbrev pub rounded : ℕ → ℕ → ℕ
rounded n d =
    let whole = n / d in
    let rest = n % d in
    let up = ltb d (2 * rest) || (eqb (2 * rest) d && eqb (whole % 2) 1) in
    cond up (whole + 1) whole

-- "m is 1000p/q", so rounded; "`none` is kept for 1/0"
unfoldable pub thousandths : ℕ → ℕ → Option ℕ
thousandths p zero = none
thousandths p (suc q) = some (rounded (1000 * p) (suc q))

-- ---- what the print rule asks, whichever way m is found

-- |a − b|
abbrev pub difference : ℕ → ℕ → ℕ
difference a b = nat_abs (pos a -ℤ pos b)

-- m is the print rule's whole number for n/d: "nearest", so at most a half from it, "with an exact half going to the even"
pub record Nearest (n d m : ℕ) : Type 0 where
  pub near : 2 * difference n (m * d) ≤ d
  pub even : 2 * difference n (m * d) ≡ d → m % 2 ≡ 0

-- what may stand for p/q as m: "`none` is kept for 1/0", and for any other share the nearest
pub record Printed (p q : ℕ) (m : Option ℕ) : Type 0 where
  pub nothing : q ≡ 0 → m ≡ none
  pub nearest : 0 < q → (k : ℕ) × (m ≡ some k) × Nearest (1000 * p) q k
