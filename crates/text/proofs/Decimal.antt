-- The fewest digits of a number are its decimal text.
-- Assumes nothing.
use mathlib.Core.Path.{◌≡◌, refl, sym, ap, ap₂, ◌∙◌, subst}
use mathlib.Core.Bool.{Bool, true, false, cond}
use mathlib.Core.List.{List, [], ◌∷◌, ◌++◌}
use Prim.Native.Nat.{ℕ, zero, suc, ◌+◌, ◌*◌, ◌/◌, ◌%◌, ◌^◌, ◌≤◌, ◌<◌}
use native.Mathlib.Nat.{pow-suc}
use native.Mathlib.Omega.{arith}
use borrow.Author.Tests.{lt-ltb, le-ltb, ltb-false}
use lib.Dec.{ltb}
use lib.ListN.{length, length-append}
use Rattle.io.specs.Digits.{hex_digit_ascii, last_digits, IsDigitCount}
use Rattle.model.specs.Text.{digits_in, decimal, space, field, refused_line, line_feed, number_line}

-- a digit's code
digit : (d : ℕ) → d < 10 → hex_digit_ascii d ≡ 48 + d
digit d h = simp (lt-ltb d 10 h)

pow_pos : (k : ℕ) → 1 ≤ 10 ^ k
pow_pos zero = omega arith
pow_pos (suc k) = omega (arith, pow-suc 10 k, pow_pos k)

-- a number of at least so many digits
least-of : (n r : ℕ) → 1 ≤ r → IsDigitCount 10 1 n (suc r) → 10 ^ r ≤ n
least-of n r h f = subst (λ (k : ℕ). 10 ^ k ≤ n) (omega arith) (f.2 (omega arith))

-- a number below ten has one digit, any other more
one_digit : (n r : ℕ) → n < 10 → IsDigitCount 10 1 n (suc r) → last_digits 10 (suc r) n ≡ (48 + n) ∷ []
one_digit n zero h f =
    let e : n % 10 ≡ n = omega arith in
    ap (λ (d : ℕ). d ∷ []) (ap hex_digit_ascii e ∙ digit n h)
one_digit n (suc r) h f =
    absurd (omega (arith, least-of n (suc r) (omega arith) f, pow-suc 10 r, pow_pos r))

shorter : (n r : ℕ) → IsDigitCount 10 1 n (suc (suc r)) → IsDigitCount 10 1 (n / 10) (suc r)
shorter n r f =
    let up : n < 10 ^ suc r * 10 = rw (← pow-suc 10 (suc r)) f.1 in
    let low : 10 ^ r ≤ n / 10 = omega (arith, least-of n (suc r) (omega arith) f, pow-suc 10 r) in
    (omega arith, omega arith, λ more. subst (λ (k : ℕ). 10 ^ k ≤ n / 10) (omega arith) low)

digits_in_lem : (k n r : ℕ) → n ≤ k → IsDigitCount 10 1 n (suc r) → last_digits 10 (suc r) n ≡ digits_in k n
digits_in_lem zero n r h f = one_digit n r (omega arith) f
digits_in_lem (suc k) n zero h f = one_digit n zero f.1 f ∙ ap (λ (b : Bool). cond b ((48 + n) ∷ []) (digits_in k (n / 10) ++ ((48 + n % 10) ∷ []))) (sym (lt-ltb n 10 f.1))
digits_in_lem (suc k) n (suc r) h f =
    let big : 10 ≤ n = omega (arith, least-of n (suc r) (omega arith) f, pow-suc 10 r, pow_pos r) in
    ap₂ (λ (ds : List ℕ) (d : ℕ). ds ++ (d ∷ [])) (digits_in_lem k (n / 10) r (omega arith) (shorter n r f)) (digit (n % 10) (omega arith))
    ∙ ap (λ (b : Bool). cond b ((48 + n) ∷ []) (digits_in k (n / 10) ++ ((48 + n % 10) ∷ []))) (sym (le-ltb n 10 big))

-- the fewest digits are the decimal text
pub digits_decimal : (n r : ℕ) → IsDigitCount 10 1 n r → last_digits 10 r n ≡ decimal n
unfolding decimal
digits_decimal n zero f = absurd (omega (arith, f.0))
digits_decimal n (suc r) f = digits_in_lem n n r (omega arith) f

-- a number below a power of ten has no more digits than it
digits_length : (f k n : ℕ) → n < 10 ^ suc k → length (digits_in f n) ≤ suc k
digits_length zero k n h = omega arith
digits_length (suc f) k n h = go (ltb n 10) refl k h (λ j l. digits_length f j (n / 10) l)
  where
    go : (b : Bool) → ltb n 10 ≡ b → (k : ℕ) → n < 10 ^ suc k → ((j : ℕ) → n / 10 < 10 ^ suc j → length (digits_in f (n / 10)) ≤ suc j) →
        length (cond b ((48 + n) ∷ []) (digits_in f (n / 10) ++ ((48 + n % 10) ∷ []))) ≤ suc k
    go true e k h later = omega arith
    go false e zero h later = absurd (omega (arith, ltb-false))
    go false e (suc k) h later =
        let up : n < 10 ^ suc k * 10 = rw (← pow-suc 10 (suc k)) h in
        omega (arith, length-append (digits_in f (n / 10)) ((48 + n % 10) ∷ []), later k (omega arith))

pub decimal-length : (k n : ℕ) → n < 10 ^ suc k → length (decimal n) ≤ suc k
unfolding decimal
decimal-length k n h = digits_length n k n h

pub number-line-length : (n : ℕ) → length (number_line n) ≡ length (decimal n) + 1
number-line-length n = length-append (decimal n) line_feed

-- the line of a refusal is a word, a space, the number and a line feed
pub refused-length : (n : ℕ) → length (refused_line n) ≡ length (decimal n) + 9
unfolding refused_line
refused-length n =
    omega (
      arith,
      length-append ((114 ∷ 101 ∷ 102 ∷ 117 ∷ 115 ∷ 101 ∷ 100 ∷ 32 ∷ []) ++ decimal n) line_feed,
      length-append (114 ∷ 101 ∷ 102 ∷ 117 ∷ 115 ∷ 101 ∷ 100 ∷ 32 ∷ []) (decimal n),
    )

-- it is short
pub refused-most : (n : ℕ) → n < 2 ^ 64 → length (refused_line n) ≤ 29
refused-most n h = omega (arith, refused-length n, decimal-length 19 n (omega arith))

pub number-most : (n : ℕ) → n < 2 ^ 64 → length (number_line n) ≤ 21
number-most n h = omega (arith, number-line-length n, decimal-length 19 n (omega arith))

pub field-length : (n : ℕ) → length (field n) ≡ length (decimal n) + 1
field-length n = length-append (decimal n) space

pub three_length : (x y z : ℕ) → length (field x ++ field y ++ field z) ≡ length (field x) + length (field y) + length (field z)
three_length x y z = omega (arith, length-append (field x ++ field y) (field z), length-append (field x) (field y))
