-- Laws of the sum of f 0 to f (n − 1).
-- Assumes nothing.
use mathlib.Core.Path.{◌≡◌, refl, sym, ◌∙◌, ap, ap₂, subst}
use mathlib.Core.Logic.{by_cases}
use Prim.Native.Nat.{ℕ, zero, suc, ◌+◌, ◌<◌, ◌≤◌}
use native.Mathlib.Nat.{add-zero, add-suc, not-suc-le-zero}
use native.Mathlib.Decide.{ℕ_discrete, dec_lt}
use native.Mathlib.Omega.{arith}
use Rattle.model.specs.Lists.{sum}

-- sums of the same numbers are equal
pub sum_same : (f g : ℕ → ℕ) (n : ℕ) → ((k : ℕ) → k < n → f k ≡ g k) → sum f n ≡ sum g n
sum_same f g zero h = refl
sum_same f g (suc n) h = ap₂ (λ a b. a + b) (sum_same f g n (λ k l. h k (omega arith))) (h n (omega arith))

-- a sum of zeros is 0
pub sum-zero : (f : ℕ → ℕ) (n : ℕ) → ((k : ℕ) → k < n → f k ≡ 0) → sum f n ≡ 0
sum-zero f zero h = refl
sum-zero f (suc n) h = omega (arith, sum-zero f n (λ k l. h k (omega arith)), h n (omega arith))

-- the first number apart
pub sum_head : (f : ℕ → ℕ) (n : ℕ) → sum f (suc n) ≡ f 0 + sum (λ k. f (suc k)) n
sum_head f zero = omega arith
sum_head f (suc n) = omega (arith, sum_head f n)

-- zeros past m add nothing
pub sum_past : (f : ℕ → ℕ) (m n : ℕ) → ((k : ℕ) → m ≤ k → f k ≡ 0) → sum f (m + n) ≡ sum f m
sum_past f m zero h = ap (sum f) (add-zero m)
sum_past f m (suc n) h = ap (sum f) (add-suc m n) ∙ omega (arith, sum_past f m n h, h (m + n) (omega arith))

-- sums of numbers that are no greater
pub sum-le : (f g : ℕ → ℕ) (n : ℕ) → ((k : ℕ) → k < n → f k ≤ g k) → sum f n ≤ sum g n
sum-le f g zero h = omega arith
sum-le f g (suc n) h = omega (arith, sum-le f g n (λ k l. h k (omega arith)), h n (omega arith))

-- where such a sum is no smaller, the numbers are the same
pub sum-le-same : (f g : ℕ → ℕ) (n : ℕ) → ((k : ℕ) → k < n → f k ≤ g k) → sum g n ≤ sum f n → (k : ℕ) → k < n → f k ≡ g k
sum-le-same f g zero h s k l = absurd (not-suc-le-zero l)
sum-le-same f g (suc n) h s k l =
    let low = sum-le f g n (λ j i. h j (omega arith)) in
    by_cases (dec_lt k n) (λ b. sum-le-same f g n (λ j i. h j (omega arith)) (omega (arith, s, low, h n (omega arith))) k b)
    (λ b.
    let e : k ≡ n = omega arith in
    let same : f n ≡ g n = omega (arith, s, low, h n (omega arith)) in
    subst (λ (j : ℕ). f j ≡ g j) (sym e) same)

-- a sum of the same numbers but for one that is smaller is smaller
pub sum_less : (f g : ℕ → ℕ) (n v : ℕ) → v < n → ((k : ℕ) → k < n → (k ≡ v → ⊥) → f k ≡ g k) → f v < g v → sum f n < sum g n
sum_less f g zero v h s l = absurd (not-suc-le-zero h)
sum_less f g (suc n) v h s l = by (ℕ_discrete v n) (λ b. sum_less f g n v b (λ k j. s k (omega arith)) l)
  where
    by : Dec (v ≡ n) → (v < n → sum f n < sum g n) → sum f (suc n) < sum g (suc n)
    by (yes p) r =
        omega (arith, sum_same f g n (λ k j. s k (omega arith) (λ e. absurd (omega arith))), subst (λ (k : ℕ). f k < g k) p l)
    by (no q) r = omega (arith, r (omega arith), s n (omega arith) (λ e. q (sym e)))
