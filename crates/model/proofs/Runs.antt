-- Laws of a bit that is moved up, of the count of ones, and of runs of neighbouring bits.
-- Assumes nothing.
use mathlib.Core.Path.{◌≡◌, refl, sym, ◌∙◌, ap, subst}
use mathlib.Core.Bool.{true}
use mathlib.Core.Logic.{◌↔◌, by_cases}
use Prim.Native.Nat.{ℕ, zero, suc, ◌+◌, ◌-◌, ◌*◌, ◌/◌, ◌%◌, ◌^◌, ◌≤◌, ◌<◌}
use native.Mathlib.Nat.{two-pow-succ, zero-mul, one-mul, mod-eq_of_lt, mul_assoc, mul_comm, pow-suc, mul-le-mul_right, lt_of_lt_of_le}
use native.Mathlib.Decide.{dec_lt}
use native.Mathlib.Omega.{arith}
use lib.Count as count
use lib.Dec.{eqb}
use lib.Pow.{pow_pos, pow-lt, pow_mono, pow-add, ones_lt, shl_lt}
use borrow.Author.Tests.{eqb-true, eq-eqb}
use Rattle.model.specs.Lists.{ones, up_from}
use Rattle.model.specs.Masks.{bit_run, neighbouring}
use Rattle.model.proofs.Lists.{mem-up_from, mem-of-up_from}
use Rattle.model.proofs.Tests.{any_some}

-- 1 moved up within a word
pub one-moved : (w n : ℕ) → n < w → 1 * 2 ^ n % 2 ^ w ≡ 2 ^ n
one-moved w n h = ap (λ (m : ℕ). m % 2 ^ w) (one-mul (2 ^ n)) ∙ mod-eq_of_lt (pow-lt {j = w} h)

-- no bits
pub run_none : (k : ℕ) → bit_run 0 k ≡ 0
run_none k = zero-mul (2 ^ k)

-- one place up
pub run_double : (c k : ℕ) → bit_run c (suc k) ≡ 2 * bit_run c k
run_double c k =
    ap (λ (x : ℕ). (2 ^ c - 1) * x) (pow-suc 2 k) ∙ sym (mul_assoc (2 ^ c - 1) (2 ^ k) 2) ∙ mul_comm (bit_run c k) 2

-- one bit more, at the low end
pub run_more : (c : ℕ) → bit_run (suc c) 0 ≡ suc (2 * bit_run c 0)
run_more c = omega (arith, two-pow-succ c, pow_pos c)

-- 0 has no ones
pub ones-zero : (n : ℕ) → ones n 0 ≡ 0
ones-zero zero = refl
ones-zero (suc n) = omega (arith, ones-zero n)

-- the ones of a number of n bits, as they are counted
pub ones-counted : (n m : ℕ) → m < 2 ^ n → count.ones m ≡ ones n m
unfolding count.ones count.ones_in
ones-counted zero m h = let z : m ≡ 0 = omega arith in ap count.ones z
ones-counted (suc n) m h = count.ones_step m ∙ ap (λ k. m % 2 + k) (ones-counted n (m / 2) (omega (arith, two-pow-succ n)))

-- a run has as many ones as it has bits
pub run-ones : (c k n : ℕ) → k + c ≤ n → ones n (bit_run c k) ≡ c
run-ones zero k n h = ap (ones n) (run_none k) ∙ ones-zero n
run-ones (suc c) k zero h = absurd (omega arith)
run-ones (suc c) zero (suc n) h =
    let m = bit_run (suc c) 0 in
    let half : m / 2 ≡ bit_run c 0 = omega (arith, run_more c) in
    let low : m % 2 ≡ 1 = omega (arith, run_more c) in
    omega (arith, low, ap (ones n) half ∙ run-ones c 0 n (omega arith))
run-ones (suc c) (suc k) (suc n) h =
    let m = bit_run (suc c) (suc k) in
    let half : m / 2 ≡ bit_run (suc c) k = omega (arith, run_double (suc c) k) in
    let low : m % 2 ≡ 0 = omega (arith, run_double (suc c) k) in
    omega (arith, low, ap (ones n) half ∙ run-ones (suc c) k n (omega arith))

-- it lies below the bit after its last
pub run_fits : (c k n : ℕ) → k + c ≤ n → bit_run c k < 2 ^ n
run_fits c k n h = lt_of_lt_of_le (shl_lt c k (ones_lt c)) (pow_mono (omega arith))

-- it has its last bit
run-last : (c k : ℕ) → 2 ^ (c + k) ≤ bit_run (suc c) k
run-last c k =
    subst (λ (x : ℕ). x ≤ bit_run (suc c) k) (sym (pow-add 2 c k)) (mul-le-mul_right (2 ^ k) (omega (arith, two-pow-succ c, pow_pos c)))

-- so what it lies below is at least its end
pub run-below : (c k n : ℕ) → 1 ≤ c → bit_run c k < 2 ^ n → k + c ≤ n
run-below zero k n p h = absurd (omega arith)
run-below (suc c) k n p h =
    by_cases (dec_lt (c + k) n) (λ l. omega arith) (λ l. absurd (omega (arith, h, run-last c k, pow_mono {i = n} {j = c + k} (omega arith))))

-- a run with a bit is not 0
pub run-pos : (c k : ℕ) → 1 ≤ c → 1 ≤ bit_run c k
run-pos zero k p = absurd (omega arith)
run-pos (suc c) k p = omega (arith, run-last c k, pow_pos (c + k))

-- runs of one length rise with their places
pub run-rises : (c k : ℕ) → 1 ≤ c → bit_run c k < bit_run c (suc k)
run-rises c k p = omega (arith, run_double c k, run-pos c k p)

-- the test is that the number is the run of its ones from one of the bits 0 to n on
pub neighbouring-run : (n m : ℕ) → (neighbouring n m ≡ true) ↔ ((k : ℕ) × (k ≤ n) × (m ≡ bit_run (ones n m) k))
unfolding neighbouring
neighbouring-run n m =
    let among = any_some (λ k. eqb m (bit_run (ones n m) k)) (up_from 0 (suc n)) in (
      λ h.
          let r = among.0 h in
          (r.0, omega (arith, mem-of-up_from 0 (suc n) r.1), eqb-true m (bit_run (ones n m) r.0) r.2),
      λ r. among.1 (r.0, mem-up_from 0 (suc n) (omega arith) (omega (arith, r.1)), eq-eqb m (bit_run (ones n m) r.0) r.2),
    )

-- 0 passes it
pub zero-neighbouring : (n : ℕ) → neighbouring n 0 ≡ true
zero-neighbouring n =
    (neighbouring-run n 0).1 (0, omega arith, sym (ap (λ (c : ℕ). bit_run c 0) (ones-zero n) ∙ run_none 0))
