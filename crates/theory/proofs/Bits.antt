-- The bits of a number: of a half, of bit_or and bit_and, the count of ones, the number with given bits, and runs of neighbouring bits.
-- Assumes nothing.
use mathlib.Core.Path.{◌≡◌, refl, sym, ◌∙◌, ap, ap₂, subst}
use mathlib.Core.Bool.{Bool, true, false, ◌&&◌, ◌||◌}
use mathlib.Core.Logic.{◌↔◌, ◌⊎◌, ⊎_elim}
use Prim.Native.Nat.{ℕ, zero, suc, ◌+◌, ◌-◌, ◌*◌, ◌/◌, ◌%◌, ◌^◌, ◌<◌, ◌≤◌, min, max}
use native.Mathlib.Nat.{div-one, zero-div, div-eq_of_lt, two-pow-succ, lt_of_lt_of_le, add-sub_of_le}
use native.Mathlib.Numerals.{one-add}
use native.Mathlib.Omega.{arith}
use borrow.Author.Tests.{eqb-false}
use lib.Bits.{bit_and, bit_or, and_step, or_step, and_shr, or_shr}
use lib.Dec.{T, eqb}
use lib.Pow.{pow_mono, shr-shr}
use Rattle.model.specs.Lists.{bit, one, ones, sum}
use Rattle.model.specs.Masks.{bit_run}
use Rattle.model.proofs.Runs.{run_none, run_double, run_more, run-ones, run_fits}
use Rattle.model.proofs.Tests.{is_true, is_false, holds, fails, both_hold, left-holds, right-holds, or_cases, or_left, or_right}
use Rattle.theory.proofs.Sums.{sum_same, sum-le-same, sum_head, sum_past}

-- the lowest bit
abbrev odd : ℕ → Bool
odd n = eqb (n % 2) 1

-- bit 0 is the lowest digit
pub bit-zero : (n : ℕ) → bit n 0 ≡ eqb (n % 2) 1
bit-zero n = ap odd (div-one n)

-- "moves down one place": bit k of the half is bit k + 1
pub bit_half : (n k : ℕ) → bit (n / 2) k ≡ bit n (suc k)
bit_half n k = ap odd (shr-shr n 1 k ∙ ap (λ (j : ℕ). n / 2 ^ j) (one-add k))

-- 0 has no bit
pub bit-of-zero : (k : ℕ) → bit 0 k ≡ false
bit-of-zero k = ap odd (zero-div (2 ^ k))

-- so a number that has a bit is not 0
pub zero_no_bit : {m : ℕ} → m ≡ 0 → (k : ℕ) → T (bit m k) → ⊥
zero_no_bit e k h = fails (ap (λ (n : ℕ). bit n k) e ∙ bit-of-zero k) h

-- a number below 2 ^ n has no bit from n on
pub bit_past : (n m k : ℕ) → m < 2 ^ n → n ≤ k → bit m k ≡ false
bit_past n m k h l = ap odd (div-eq_of_lt (lt_of_lt_of_le h (pow_mono l)))

-- what holds of 0 and 1 holds of the lowest digit
digit : (C : ℕ → Type 0) → C 0 → C 1 → (n : ℕ) → C (n % 2)
digit C c₀ c₁ n = below (n % 2) (omega arith)
  where
    below : (d : ℕ) → d < 2 → C d
    below zero h = c₀
    below (suc zero) h = c₁
    below (suc (suc d)) h = absurd (omega arith)

-- the same of two numbers
digits : (C : ℕ → ℕ → Type 0) → C 0 0 → C 0 1 → C 1 0 → C 1 1 → (a b : ℕ) → C (a % 2) (b % 2)
digits C c₀₀ c₀₁ c₁₀ c₁₁ a b = digit (λ x. C x (b % 2)) (digit (C 0) c₀₀ c₀₁ b) (digit (C 1) c₁₀ c₁₁ b) a

-- the lowest digit, from its test
one-odd : (n : ℕ) → one (odd n) ≡ n % 2
one-odd n = digit (λ x. one (eqb x 1) ≡ x) refl refl n

-- the lowest bit of bit_or
odd-or : (a b : ℕ) → odd (bit_or a b) ≡ (odd a || odd b)
odd-or a b =
    let e : bit_or a b % 2 ≡ max (a % 2) (b % 2) = omega (arith, or_step a b) in
    ap (λ (d : ℕ). eqb d 1) e ∙ digits (λ x y. eqb (max x y) 1 ≡ (eqb x 1 || eqb y 1)) refl refl refl refl a b

-- the lowest bit of bit_and
odd-and : (a b : ℕ) → odd (bit_and a b) ≡ (odd a && odd b)
odd-and a b =
    let e : bit_and a b % 2 ≡ min (a % 2) (b % 2) = omega (arith, and_step a b) in
    ap (λ (d : ℕ). eqb d 1) e ∙ digits (λ x y. eqb (min x y) 1 ≡ (eqb x 1 && eqb y 1)) refl refl refl refl a b

-- a bit of bit_or is a bit of one of the two
pub bit-or : (a b k : ℕ) → bit (bit_or a b) k ≡ (bit a k || bit b k)
bit-or a b k = ap odd (or_shr a b k) ∙ odd-or (a / 2 ^ k) (b / 2 ^ k)

-- the same, by cases
pub or-bit : (a b k : ℕ) → T (bit (bit_or a b) k) ↔ (T (bit a k) ⊎ T (bit b k))
or-bit a b k = (
  λ h. or_cases (bit a k) (bit b k) (subst T (bit-or a b k) h),
  λ h. subst T (sym (bit-or a b k)) (⊎_elim (or_left (bit a k) (bit b k)) (or_right (bit a k) (bit b k)) h),
)

-- a bit of bit_and is a bit of both
pub bit-and : (a b k : ℕ) → bit (bit_and a b) k ≡ (bit a k && bit b k)
bit-and a b k = ap odd (and_shr a b k) ∙ odd-and (a / 2 ^ k) (b / 2 ^ k)

-- numbers below 2 ^ n with the same lowest n bits are equal
pub bits_determine : (n a b : ℕ) → a < 2 ^ n → b < 2 ^ n → ((k : ℕ) → k < n → bit a k ≡ bit b k) → a ≡ b
bits_determine zero a b h l e = omega arith
bits_determine (suc n) a b h l e =
    omega (
      arith,
      sym (one-odd a) ∙ ap one (sym (bit-zero a) ∙ e 0 (omega arith) ∙ bit-zero b) ∙ one-odd b,
      bits_determine n (a / 2) (b / 2) (omega (arith, two-pow-succ n)) (omega (arith, two-pow-succ n))
          (λ k m. bit_half a k ∙ e (suc k) (omega arith) ∙ sym (bit_half b k)),
    )

-- every number is below a power of 2
lt-pow : (n : ℕ) → n < 2 ^ n
lt-pow zero = omega arith
lt-pow (suc n) = omega (arith, two-pow-succ n, lt-pow n)

-- a number without a bit is 0
pub no_bit : (m : ℕ) → ((k : ℕ) → T (bit m k) → ⊥) → m ≡ 0
no_bit m h =
    bits_determine m m 0 (lt-pow m) (omega (arith, lt-pow m))
    (λ k l. is_false (bit m k) (h k) ∙ sym (bit-of-zero k))

-- a number above 0 has a bit
bit-within : (n m : ℕ) → m < 2 ^ n → 1 ≤ m → (k : ℕ) × T (bit m k)
bit-within zero m h l = absurd (omega arith)
bit-within (suc n) m h l = go (eqb (m % 2) 1) refl (λ i. bit-within n (m / 2) (omega (arith, two-pow-succ n)) i)
  where
    go : (b : Bool) → eqb (m % 2) 1 ≡ b → (1 ≤ m / 2 → (k : ℕ) × T (bit (m / 2) k)) → (k : ℕ) × T (bit m k)
    go true e half = (0, holds (bit-zero m ∙ e))
    go false e half = let r = half (omega (arith, eqb-false (m % 2) 1 e)) in (suc r.0, subst T (bit_half m r.0) r.1)

pub some-bit : (m : ℕ) → 1 ≤ m → (k : ℕ) × T (bit m k)
some-bit m h = bit-within m m (lt-pow m) h

-- a number without a bit from n on is below 2 ^ n
pub bits_below : (n m : ℕ) → ((k : ℕ) → n ≤ k → T (bit m k) → ⊥) → m < 2 ^ n
bits_below zero m h = omega (arith, no_bit m (λ k b. h k (omega arith) b))
bits_below (suc n) m h =
    omega (arith, two-pow-succ n, bits_below n (m / 2) (λ k l b. h (suc k) (omega arith) (subst T (bit_half m k) b)))

-- no bit of both
abbrev pub Apart : ℕ → ℕ → Type 0
Apart a b = (k : ℕ) → T (bit a k) → T (bit b k) → ⊥

-- bit_and is 0 just where no bit is of both
pub and-apart : (a b : ℕ) → (bit_and a b ≡ 0) ↔ Apart a b
and-apart a b = (
  λ e k h l. fails (sym (bit-and a b k) ∙ ap (λ (m : ℕ). bit m k) e ∙ bit-of-zero k) (both_hold (bit a k) (bit b k) h l),
  λ h. no_bit (bit_and a b) (λ k l. apart h k (holds (sym (bit-and a b k) ∙ is_true (bit (bit_and a b) k) l))),
)
  where
    apart : Apart a b → (k : ℕ) → T (bit a k && bit b k) → ⊥
    apart h k l = h k (left-holds (bit a k) (bit b k) l) (right-holds (bit a k) (bit b k) l)

-- the count of ones is the sum of the bits
pub ones-sum : (n m : ℕ) → ones n m ≡ sum (λ k. one (bit m k)) n
ones-sum zero m = refl
ones-sum (suc n) m =
    ap₂ (λ (a b : ℕ). a + b) (sym (one-odd m) ∙ ap one (sym (bit-zero m)))
    (ones-sum n (m / 2) ∙ sum_same _ _ n (λ k _. ap one (bit_half m k)))
    ∙ sym (sum_head (λ k. one (bit m k)) n)

-- a number below 2 ^ n has its ones among its lowest n bits
pub ones_past : (n w m : ℕ) → m < 2 ^ n → n ≤ w → ones w m ≡ ones n m
ones_past n w m h l =
    ones-sum w m ∙ ap (sum (λ k. one (bit m k))) (sym (add-sub_of_le l))
    ∙ sum_past (λ k. one (bit m k)) n (w - n) (λ k p. ap one (bit_past n m k h p)) ∙ sym (ones-sum n m)

-- and their count is the sum of those
pub ones_below : (n w m : ℕ) → m < 2 ^ n → n ≤ w → ones w m ≡ sum (λ k. one (bit m k)) n
ones_below n w m h l = ones_past n w m h l ∙ ones-sum n m

-- the number whose lowest n bits are f 0 to f (n − 1), and no other
pub from_bits : (ℕ → Bool) → ℕ → ℕ
from_bits f zero = 0
from_bits f (suc n) = one (f 0) + from_bits (λ k. f (suc k)) n * 2

-- one is a digit
pub one-lt : (b : Bool) → one b < 2
one-lt true = omega arith
one-lt false = omega arith

-- it is below 2 ^ n
pub from_bits_lt : (f : ℕ → Bool) (n : ℕ) → from_bits f n < 2 ^ n
unfolding from_bits
from_bits_lt f zero = omega arith
from_bits_lt f (suc n) = omega (arith, one-lt (f 0), from_bits_lt (λ k. f (suc k)) n, two-pow-succ n)

-- the test of one is the bit
eqb-one : (b : Bool) → eqb (one b) 1 ≡ b
eqb-one true = refl
eqb-one false = refl

-- its bits are f's
pub bit_from_bits : (f : ℕ → Bool) (n k : ℕ) → k < n → bit (from_bits f n) k ≡ f k
unfolding from_bits
bit_from_bits f zero k h = absurd (omega arith)
bit_from_bits f (suc n) zero h =
    let low : from_bits f (suc n) % 2 ≡ one (f 0) = omega (arith, one-lt (f 0)) in
    bit-zero (from_bits f (suc n)) ∙ ap (λ (d : ℕ). eqb d 1) low ∙ eqb-one (f 0)
bit_from_bits f (suc n) (suc k) h =
    let high : from_bits f (suc n) / 2 ≡ from_bits (λ j. f (suc j)) n = omega (arith, one-lt (f 0)) in
    sym (bit_half (from_bits f (suc n)) k) ∙ ap (λ (m : ℕ). bit m k) high
    ∙ bit_from_bits (λ j. f (suc j)) n k (omega arith)

-- the bits of a run are those from its place on, as many as it is long
pub run-bit : (c k j : ℕ) → T (bit (bit_run c k) j) ↔ ((k ≤ j) × (j < k + c))
run-bit zero k j = (λ h. absurd (zero_no_bit (run_none k) j h), λ h. absurd (omega arith))
run-bit (suc c) zero zero =
    let low : bit_run (suc c) 0 % 2 ≡ 1 = omega (arith, run_more c) in
    (λ h. (omega arith, omega arith), λ h. holds (bit-zero (bit_run (suc c) 0) ∙ ap (λ (d : ℕ). eqb d 1) low))
run-bit (suc c) zero (suc j) =
    let half : bit_run (suc c) 0 / 2 ≡ bit_run c 0 = omega (arith, run_more c) in
    let same = sym (bit_half (bit_run (suc c) 0) j) ∙ ap (λ (m : ℕ). bit m j) half in
    (λ h. omega (arith, (run-bit c 0 j).0 (subst T same h)), λ h. subst T (sym same) ((run-bit c 0 j).1 (omega arith, omega arith)))
run-bit (suc c) (suc k) zero =
    let low : bit_run (suc c) (suc k) % 2 ≡ 0 = omega (arith, run_double (suc c) k) in
    (λ h. absurd (fails (bit-zero (bit_run (suc c) (suc k)) ∙ ap (λ (d : ℕ). eqb d 1) low) h), λ h. absurd (omega arith))
run-bit (suc c) (suc k) (suc j) =
    let half : bit_run (suc c) (suc k) / 2 ≡ bit_run (suc c) k = omega (arith, run_double (suc c) k) in
    let same = sym (bit_half (bit_run (suc c) (suc k)) j) ∙ ap (λ (m : ℕ). bit m j) half in
    (λ h. omega (arith, (run-bit (suc c) k j).0 (subst T same h)), λ h. subst T (sym same) ((run-bit (suc c) k j).1 (omega arith, omega arith)))

-- a test that implies another counts no more
one_mono : (a b : Bool) → (T a → T b) → one a ≤ one b
one_mono true true h = omega arith
one_mono true false h = absurd (h tt)
one_mono false b h = omega arith

-- a number with c ones, all of them at the c places from k on, is the run
pub run_of : (n m c k : ℕ) → m < 2 ^ n → ones n m ≡ c → ((j : ℕ) → T (bit m j) → (k ≤ j) × (j < k + c)) → m ≡ bit_run c k
run_of n m c k h o b =
    bits_determine w m (bit_run c k) (lt_of_lt_of_le h (pow_mono (omega arith))) (run_fits c k w (omega arith))
    (λ j l. one_bit (sum-le-same mine its w (λ i _. le i) (omega (arith, whole)) j l))
  where
    w : ℕ
    w = n + (k + c)

    mine : ℕ → ℕ
    mine j = one (bit m j)

    its : ℕ → ℕ
    its j = one (bit (bit_run c k) j)

    whole : sum its w ≡ sum mine w
    whole =
        sym (ones-sum w (bit_run c k)) ∙ run-ones c k w (omega arith) ∙ sym o ∙ sym (ones_past n w m h (omega arith)) ∙ ones-sum w m

    le : (i : ℕ) → mine i ≤ its i
    le i = one_mono (bit m i) (bit (bit_run c k) i) (λ t. (run-bit c k i).1 (b i t))

    one_bit : {x y : Bool} → one x ≡ one y → x ≡ y
    one_bit {x} {y} e = sym (eqb-one x) ∙ ap (λ (d : ℕ). eqb d 1) e ∙ eqb-one y
