-- The number that decimal digits are.
use Rattle.std.specs.Prelude as rust
use Rattle.std.specs.Prelude.{ℕ, ◌+◌, ◌*◌, ◌-◌, ◌^◌, Bool, cond, ltb, None, Some}
use mathlib.Core.List.{List, [], ◌∷◌, foldl}
use Rattle.std.proofs.Math.Option.{Option, none, some}
use Rattle.model.specs.Lists.{all}
use Rattle.model.specs.Plan.{between}

-- 0 to 9
abbrev pub is_digit : ℕ → Bool
is_digit b = between 48 b 57

-- "Numbers are decimal."
unfoldable pub value_of : List ℕ → ℕ
value_of ds = foldl (λ n b. n * 10 + (b - 48)) 0 ds

-- one digit or more, and nothing else
unfoldable pub decimal_in : List ℕ → Option ℕ
decimal_in [] = none
decimal_in (d ∷ ds) = cond (all is_digit (d ∷ ds)) (some (value_of (d ∷ ds))) none

-- the largest number of 64 bits
abbrev pub largest : ℕ
largest = 2 ^ 64 - 1

-- a number above the largest counts as that
unfoldable pub capped : ℕ → ℕ
capped n = cond (ltb largest n) largest n

-- what is answered
abbrev pub number_of : Option ℕ → rust.Option ℕ
number_of none = None
number_of (some n) = Some (capped n)
