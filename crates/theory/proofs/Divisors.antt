-- Laws of the greatest common divisor. Assumes nothing.
use mathlib.Core.Path.{◌≡◌, refl, sym, subst}
use Prim.Native.Nat.{ℕ, zero, suc, ◌*◌, ◌/◌, ◌%◌, ◌<◌, ◌∣◌}
use native.Mathlib.Nat.{mod-lt, mul-one, not-suc-le-zero, dvd_refl, dvd-zero, dvd-mod_iff, eq-one_of_dvd-one, pos_of_dvd_of_pos, mul-dvd-mul_left, dvd_of_mul-dvd-mul_left, mul-div_cancel'}
use native.Mathlib.Omega.{arith}
use Rattle.model.specs.Check.{gcd_in, gcd}

-- turns enough are all the same
turns : (n m a b : ℕ) → b < n → b < m → gcd_in n a b ≡ gcd_in m a b
turns zero m a b h k = absurd (not-suc-le-zero h)
turns (suc n) zero a b h k = absurd (not-suc-le-zero k)
turns (suc n) (suc m) a zero h k = refl
turns (suc n) (suc m) a (suc b) h k =
    let low : a % suc b < suc b = mod-lt a (omega arith) in turns n m (suc b) (a % suc b) (omega arith) (omega arith)

pub gcd-zero : (a : ℕ) → gcd a 0 ≡ a
unfolding gcd
gcd-zero a = refl

-- a turn of Euclid's algorithm
pub gcd-mod : (a b : ℕ) → 0 < b → gcd a b ≡ gcd b (a % b)
unfolding gcd
gcd-mod a zero h = absurd (not-suc-le-zero h)
gcd-mod a (suc b) h =
    let low : a % suc b < suc b = mod-lt a h in turns (suc b) (suc (a % suc b)) (suc b) (a % suc b) low (omega arith)

divides_in : (n a b : ℕ) → b < n → (gcd_in n a b ∣ a) × (gcd_in n a b ∣ b)
divides_in zero a b h = absurd (not-suc-le-zero h)
divides_in (suc n) a zero h = (dvd_refl a, dvd-zero a)
divides_in (suc n) a (suc b) h =
    let low : a % suc b < suc b = mod-lt a (omega arith) in
    let later = divides_in n (suc b) (a % suc b) (omega arith) in
    ((dvd-mod_iff _ later.0).0 later.1, later.0)

-- it divides both
pub gcd_divides : (a b : ℕ) → (gcd a b ∣ a) × (gcd a b ∣ b)
unfolding gcd
gcd_divides a b = divides_in (suc b) a b (omega arith)

greatest_in : (n a b d : ℕ) → d ∣ a → d ∣ b → d ∣ gcd_in n a b
greatest_in zero a b d h k = h
greatest_in (suc n) a zero d h k = h
greatest_in (suc n) a (suc b) d h k = greatest_in n (suc b) (a % suc b) d k ((dvd-mod_iff _ k).1 h)

-- what divides both divides it
pub gcd-greatest : (a b d : ℕ) → d ∣ a → d ∣ b → d ∣ gcd a b
unfolding gcd
gcd-greatest a b d h k = greatest_in (suc b) a b d h k

-- it is above 0 where the second is
pub gcd-pos-right : (a b : ℕ) → 0 < b → 0 < gcd a b
gcd-pos-right a b h = pos_of_dvd_of_pos (gcd_divides a b).1 h

-- both are so many times it
pub gcd-times : (a b : ℕ) → (gcd a b * (a / gcd a b) ≡ a) × (gcd a b * (b / gcd a b) ≡ b)
gcd-times a b = (mul-div_cancel' _ (gcd_divides a b).0, mul-div_cancel' _ (gcd_divides a b).1)

-- divided by it, they are in lowest terms
pub gcd_reduced : (a b : ℕ) → 0 < gcd a b → gcd (a / gcd a b) (b / gcd a b) ≡ 1
gcd_reduced a b h =
    let g = gcd a b in
    let two = gcd_divides (a / g) (b / g) in
    let d = gcd (a / g) (b / g) in
    let left : g * d ∣ a = subst (λ (n : ℕ). g * d ∣ n) (gcd-times a b).0 (mul-dvd-mul_left _ g two.0) in
    let right : g * d ∣ b = subst (λ (n : ℕ). g * d ∣ n) (gcd-times a b).1 (mul-dvd-mul_left _ g two.1) in
    let one : g * d ∣ g * 1 = subst (λ (n : ℕ). g * d ∣ n) (sym (mul-one g)) (gcd-greatest a b (g * d) left right) in
    eq-one_of_dvd-one (dvd_of_mul-dvd-mul_left _ h one)
