-- The measure of a search for distances, and how large its distances are, about plain functions of numbers.
-- Assumes nothing.
use mathlib.Core.Path.{◌≡◌, refl, sym, ◌∙◌, ap, ap₂, subst, subst₂}
use mathlib.Core.Bool.{Bool, true, false}
use Prim.Native.Nat.{ℕ, zero, suc, ◌*◌, ◌<◌, ◌≤◌}
use native.Mathlib.Nat.{suc-mul, mul-le-mul_right}
use native.Mathlib.Decide.{ℕ_discrete}
use native.Mathlib.Omega.{arith}
use lib.IntN.{ℤ, pos, ◌+ℤ◌}
use lib.Signed.{◌≤ℤ◌, ◌<ℤ◌}
use Rattle.model.specs.Lists.{one}
use Rattle.words.proofs.Signed.{up-add, nat_abs-is, ≤ℤ_iff, <ℤ-iff, ≤ℤ_trans}
use Rattle.theory.specs.Search.{changed, share, left, count, High}
use Rattle.theory.proofs.Integers.{dn-none}
use Rattle.theory.proofs.Sums.{sum_same, sum_less}
use Rattle.theory.proofs.Bits.{one-lt}
use Rattle.theory.proofs.Upward.{changed-at, changed_off}

-- a distance from −b to b is a smaller share than an unknown number's and a greater distance's
share-less : (b : ℕ) (k : Bool) (y z : ℤ) → pos 0 ≤ℤ (z +ℤ pos b) → z ≤ℤ pos b → (k ≡ true → z <ℤ y) → share b true z < share b k y
share-less b true y z low high less =
    omega
    (arith, dn-none (z +ℤ pos b) low, nat_abs-is (z +ℤ pos b), nat_abs-is (y +ℤ pos b), up-add z (pos b), up-add y (pos b), (<ℤ-iff z y).0 (less refl))
share-less b false y z low high less =
    omega (arith, dn-none (z +ℤ pos b) low, nat_abs-is (z +ℤ pos b), up-add z (pos b), (≤ℤ_iff z (pos b)).0 high)

-- a number that becomes known, or whose distance becomes smaller, makes the measure smaller
pub left_less : (b n : ℕ) (known : ℕ → Bool) (dist : ℕ → ℤ) (v : ℕ) (z : ℤ) → v < n → pos 0 ≤ℤ (z +ℤ pos b) → z ≤ℤ pos b →
    (known v ≡ true → z <ℤ dist v) → left b n (changed known v true) (changed dist v z) < left b n known dist
left_less b n known dist v z h low high less =
    sum_less (λ x. share b (changed known v true x) (changed dist v z x)) (λ x. share b (known x) (dist x)) n v h
    (λ k j q. ap₂ (share b) (changed_off known v true k q) (changed_off dist v z k q))
    (subst (λ (s : ℕ). s < share b (known v) (dist v)) (sym (ap₂ (share b) (changed-at known v true v refl) (changed-at dist v z v refl)))
    (share-less b (known v) (dist v) z low high less))

-- functions that are the same below n have the same measure
pub left-same : (b n : ℕ) (known known' : ℕ → Bool) (dist dist' : ℕ → ℤ) → ((x : ℕ) → x < n → known x ≡ known' x) →
    ((x : ℕ) → x < n → dist x ≡ dist' x) → left b n known dist ≡ left b n known' dist'
left-same b n known known' dist dist' k d =
    sum_same (λ x. share b (known x) (dist x)) (λ x. share b (known' x) (dist' x)) n (λ x h. ap₂ (share b) (k x h) (d x h))

count_most : (n : ℕ) (known : ℕ → Bool) → count n known ≤ n
count_most zero known = omega arith
count_most (suc n) known = omega (arith, count_most n known, one-lt (known n))

-- a number that is known already adds nothing
count_same : (n : ℕ) (known : ℕ → Bool) (v : ℕ) → known v ≡ true → count n (changed known v true) ≡ count n known
count_same n known v e =
    sum_same (λ x. one (changed known v true x)) (λ x. one (known x)) n (λ x h. ap one (by x (ℕ_discrete x v)))
  where
    by : (x : ℕ) → Dec (x ≡ v) → changed known v true x ≡ known x
    by x (yes p) = changed-at known v true x p ∙ sym (ap known p ∙ e)
    by x (no q) = changed_off known v true x q

-- another one does
count-more : (n : ℕ) (known : ℕ → Bool) (v : ℕ) → v < n → known v ≡ false → count n known < count n (changed known v true)
count-more n known v h e =
    sum_less (λ x. one (known x)) (λ x. one (changed known v true x)) n v h (λ x l q. ap one (sym (changed_off known v true x q)))
    (omega (arith, ap one e, ap one (changed-at known v true v refl)))

-- at the start
pub high-start : (n c : ℕ) (known : ℕ → Bool) (dist : ℕ → ℤ) → dist 0 ≡ pos 0 → ((v : ℕ) → v < n → known v ≡ true → v ≡ 0) →
    High n c known dist
high-start n c known dist d only v h e =
    subst (λ z. z ≤ℤ pos (count n known * c)) (sym (ap dist (only v h e) ∙ d)) ((≤ℤ_iff (pos 0) (pos (count n known * c))).1 (omega arith))

-- functions that are the same below n
pub high_same : (n c : ℕ) (known known' : ℕ → Bool) (dist dist' : ℕ → ℤ) → ((x : ℕ) → x < n → known x ≡ known' x) →
    ((x : ℕ) → x < n → dist x ≡ dist' x) → High n c known dist → High n c known' dist'
high_same n c known known' dist dist' k d g v h e =
    let same : count n known ≡ count n known' = sum_same (λ x. one (known x)) (λ x. one (known' x)) n (λ x l. ap one (k x l)) in
    subst₂ (λ z (m : ℕ). z ≤ℤ pos (m * c)) (d v h) same (g v h (k v h ∙ e))

-- so none is above n × c
pub high-most : (n c : ℕ) (known : ℕ → Bool) (dist : ℕ → ℤ) → High n c known dist → (v : ℕ) → v < n → known v ≡ true →
    dist v ≤ℤ pos (n * c)
high-most n c known dist g v h e = ≤ℤ_trans (g v h e) ((≤ℤ_iff (pos (count n known * c)) (pos (n * c))).1
    (omega (arith, mul-le-mul_right c (count_most n known))))

-- after a link of a weight of at most c that gives v no greater distance
pub high_relax : (n c : ℕ) (known : ℕ → Bool) (dist : ℕ → ℤ) → High n c known dist → (u v : ℕ) (w : ℤ) → u < n → v < n → known u ≡ true →
    w ≤ℤ pos c → (known v ≡ true → (dist u +ℤ w) ≤ℤ dist v) → High n c (changed known v true) (changed dist v (dist u +ℤ w))
high_relax n c known dist g u v w hu hv eu small less x h e = by (known v) refl (ℕ_discrete x v)
  where
    m : ℕ
    m = count n known

    m' : ℕ
    m' = count n (changed known v true)

    grown : (y : ℤ) → m ≤ m' → y ≤ℤ pos (m * c) → y ≤ℤ pos (m' * c)
    grown y l k = ≤ℤ_trans k ((≤ℤ_iff (pos (m * c)) (pos (m' * c))).1 (omega (arith, mul-le-mul_right c l)))

    at_v : x ≡ v → (dist u +ℤ w) ≤ℤ pos (m' * c) → changed dist v (dist u +ℤ w) x ≤ℤ pos (m' * c)
    at_v p k = subst (λ z. z ≤ℤ pos (m' * c)) (sym (changed-at dist v (dist u +ℤ w) x p)) k

    off_v : (x ≡ v → ⊥) → m ≤ m' → changed dist v (dist u +ℤ w) x ≤ℤ pos (m' * c)
    off_v q l =
        subst (λ z. z ≤ℤ pos (m' * c)) (sym (changed_off dist v (dist u +ℤ w) x q))
        (grown (dist x) l (g x h (sym (changed_off known v true x q) ∙ e)))

    by : (b : Bool) → known v ≡ b → Dec (x ≡ v) → changed dist v (dist u +ℤ w) x ≤ℤ pos (m' * c)
    by true k (yes p) =
        at_v p (grown (dist u +ℤ w) (omega (arith, count_same n known v k)) (≤ℤ_trans (less k) (g v hv k)))
    by false k (yes p) =
        let more : suc m * c ≤ m' * c = mul-le-mul_right c (count-more n known v hv k) in
        at_v p ((≤ℤ_iff (dist u +ℤ w) (pos (m' * c))).1
        (omega (arith, more, suc-mul m c, up-add (dist u) w, (≤ℤ_iff w (pos c)).0 small, (≤ℤ_iff (dist u) (pos (m * c))).0 (g u hu eu))))
    by true k (no q) = off_v q (omega (arith, count_same n known v k))
    by false k (no q) = off_v q (omega (arith, count-more n known v hv k))
