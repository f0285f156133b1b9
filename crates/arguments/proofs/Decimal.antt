-- Laws of decimal numbers and of the cap.
-- Assumes nothing.
use mathlib.Core.Path.{◌≡◌, refl, sym, ap, ◌∙◌}
use mathlib.Core.Bool.{Bool, true, false, cond, ◌&&◌}
use mathlib.Core.List.{List, [], ◌∷◌, foldl-append}
use mathlib.Core.Option.{none, some}
use Prim.Native.Nat.{ℕ, ◌+◌, ◌*◌, ◌-◌, ◌≤◌, ◌<◌}
use native.Mathlib.Numerals.{add-one}
use native.Mathlib.Nat.{min-eq_left, min-eq_right}
use native.Mathlib.Omega.{arith}
use borrow.Author.Tests.{lt-ltb, le-ltb, ltb-true, ltb-false}
use Rattle.std.specs.Prelude.{min}
use lib.Dec.{ltb}
use lib.ListN.{length, get_or, take}
use lib.Seq.{take-suc}
use Rattle.model.specs.Lists.{all}
use Rattle.model.proofs.All.{all_append, all_fails}
use Rattle.model.proofs.Tests.{true-and}
use Rattle.arguments.specs.Decimal.{is_digit, value_of, decimal_in, largest, capped}

pub capped_small : (n : ℕ) → n ≤ largest → capped n ≡ n
unfolding capped
capped_small n h = ap (λ (b : Bool). cond b largest n) (le-ltb largest n h)

pub capped_large : (n : ℕ) → largest < n → capped n ≡ largest
unfolding capped
capped_large n h = ap (λ (b : Bool). cond b largest n) (lt-ltb largest n h)

-- the cap as the smaller of both
capped_min : (n : ℕ) → min n largest ≡ capped n
capped_min n = go (ltb largest n) refl
  where
    go : (b : Bool) → ltb largest n ≡ b → min n largest ≡ capped n
    go true e =
        let h : largest < n = ltb-true largest n e in
        min-eq_right (omega arith) ∙ sym (capped_large n h)
    go false e =
        let h : n ≤ largest = ltb-false largest n e in
        min-eq_left h ∙ sym (capped_small n h)

-- the cap before a digit changes nothing
capped_digit : (n d : ℕ) → min (min (capped n * 10) largest + d) largest ≡ capped (n * 10 + d)
capped_digit n d = go (ltb largest (n * 10)) refl
  where
    within : largest < n * 10 → largest ≤ capped n * 10
    within h = inside (ltb largest n) refl
      where
        inside : (b : Bool) → ltb largest n ≡ b → largest ≤ capped n * 10
        inside true e = omega (arith, capped_large n (ltb-true largest n e))
        inside false e = omega (arith, capped_small n (ltb-false largest n e))

    go : (b : Bool) → ltb largest (n * 10) ≡ b → min (min (capped n * 10) largest + d) largest ≡ capped (n * 10 + d)
    go true e =
        let h : largest < n * 10 = ltb-true largest (n * 10) e in
        ap (λ (k : ℕ). min (k + d) largest) (min-eq_right (within h)) ∙ min-eq_right (omega arith) ∙ sym (capped_large (n * 10 + d) (omega arith))
    go false e =
        let h : n * 10 ≤ largest = ltb-false largest (n * 10) e in
        ap (λ (k : ℕ). min (min (k * 10) largest + d) largest) (capped_small n (omega arith))
        ∙ ap (λ (k : ℕ). min (k + d) largest) (min-eq_left h) ∙ capped_min (n * 10 + d)

-- with a byte that is no digit there is no number
no_number : (s : List ℕ) (i : ℕ) → i < length s → is_digit (get_or s i 0) ≡ false → decimal_in s ≡ none
unfolding decimal_in
no_number [] i h e = refl
no_number (d ∷ ds) i h e = ap (λ (b : Bool). cond b (some (value_of (d ∷ ds))) none) (all_fails is_digit (d ∷ ds) 0 i h e)

module _ (s : List ℕ) (i : ℕ) (h : i < length s) where
  -- another byte
  pub other_byte : is_digit (get_or s i 0) ≡ false → decimal_in s ≡ none
  other_byte k = no_number s i h k

  -- one digit more
  pub digits_more : all is_digit (take i s) ≡ true → is_digit (get_or s i 0) ≡ true → all is_digit (take (i + 1) s) ≡ true
  digits_more before digit =
      rw (add-one, take-suc s i 0 h)
      (all_append is_digit (take i s) (get_or s i 0 ∷ [])
      ∙ true-and (all is_digit (take i s)) (is_digit (get_or s i 0) && true) before (true-and (is_digit (get_or s i 0)) true digit refl))

  value-more : value_of (take (i + 1) s) ≡ value_of (take i s) * 10 + (get_or s i 0 - 48)
  unfolding value_of
  value-more = rw (add-one, take-suc s i 0 h) (foldl-append (λ n b. n * 10 + (b - 48)) 0 (take i s) (get_or s i 0 ∷ []))

  -- the value with it, within the cap
  pub capped-more : (value : ℕ) → value ≡ capped (value_of (take i s)) →
      min (min (value * 10) largest + (get_or s i 0 - 48)) largest ≡ capped (value_of (take (i + 1) s))
  capped-more value e =
      ap (λ (n : ℕ). min (min (n * 10) largest + (get_or s i 0 - 48)) largest) e
      ∙ capped_digit (value_of (take i s)) (get_or s i 0 - 48) ∙ ap capped (sym value-more)

-- of no bytes there is none
pub empty : (s : List ℕ) → length s ≡ 0 → decimal_in s ≡ none
unfolding decimal_in
empty [] h = refl
empty (d ∷ ds) h = absurd (omega arith)

-- of digits there is one
pub whole : (s : List ℕ) → (length s ≡ 0 → ⊥) → all is_digit s ≡ true → decimal_in s ≡ some (value_of s)
unfolding decimal_in
whole [] h e = absurd (h refl)
whole (d ∷ ds) h e = ap (λ (b : Bool). cond b (some (value_of (d ∷ ds))) none) e
