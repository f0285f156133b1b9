-- Facts about integers that the other files use.
-- Assumes nothing.
use mathlib.Core.Path.{◌≡◌, refl, subst}
use mathlib.Core.Bool.{false}
use mathlib.Core.Logic.{◌⊎◌, inl, inr}
use Prim.Native.Nat.{ℕ, ◌+◌, ◌-◌, ◌<◌, ◌≤◌}
use native.Mathlib.Decide.{dec_le}
use native.Mathlib.Omega.{arith}
use lib.IntN.{ℤ, pos, negsuc, ◌+ℤ◌, ◌-ℤ◌, nat_abs}
use lib.Signed.{le_z, ◌≤ℤ◌, ◌<ℤ◌}
use Rattle.words.proofs.Signed.{up, dn, up-add, up-sub, up-or-dn, nat_eq, nat_abs-is, le_z-iff, ≤ℤ_iff, <ℤ-iff}
use Rattle.model.proofs.Tests.{fails}

-- a difference of sums is the sum of differences
pub sub_sums : (a b c d : ℕ) → pos (a + b) -ℤ pos (c + d) ≡ (pos a -ℤ pos c) +ℤ (pos b -ℤ pos d)
sub_sums a b c d =
    nat_eq (pos (a + b) -ℤ pos (c + d)) ((pos a -ℤ pos c) +ℤ (pos b -ℤ pos d))
    (omega (arith, up-sub (pos (a + b)) (pos (c + d)), up-sub (pos a) (pos c), up-sub (pos b) (pos d), up-add (pos a -ℤ pos c) (pos b -ℤ pos d)))

-- a test that fails is the order the other way round
pub le_z-not : (a b : ℤ) → le_z a b ≡ false → b ≤ℤ a
le_z-not a b e = by (dec_le (up a + dn b) (up b + dn a))
  where
    by : Dec (up a + dn b ≤ up b + dn a) → b ≤ℤ a
    by (yes h) = absurd (fails e ((le_z-iff a b).1 h))
    by (no h) = (≤ℤ_iff b a).1 (omega arith)

-- the size of a difference: what the larger is above the smaller
pub nat_abs-sub : (a b : ℕ) → nat_abs (pos a -ℤ pos b) ≡ (a - b) + (b - a)
nat_abs-sub a b = by (up-or-dn (pos a -ℤ pos b))
  where
    by : (up (pos a -ℤ pos b) ≡ 0) ⊎ (dn (pos a -ℤ pos b) ≡ 0) → nat_abs (pos a -ℤ pos b) ≡ (a - b) + (b - a)
    by (inl z) = omega (arith, nat_abs-is (pos a -ℤ pos b), up-sub (pos a) (pos b))
    by (inr z) = omega (arith, nat_abs-is (pos a -ℤ pos b), up-sub (pos a) (pos b))

-- it is at most the larger
pub nat_abs-sub-le : (a b limit : ℕ) → a ≤ limit → b ≤ limit → nat_abs (pos a -ℤ pos b) ≤ limit
nat_abs-sub-le a b limit h k = omega (arith, nat_abs-sub a b)

-- a is at most b, and so whatever b is at most, with the distance between them
pub gap : (a b c : ℤ) → b ≤ℤ c → a ≤ℤ (c +ℤ pos (nat_abs (a -ℤ b)))
gap a b c k =
    (≤ℤ_iff a (c +ℤ pos (nat_abs (a -ℤ b)))).1
    (omega (arith, (≤ℤ_iff b c).0 k, up-add c (pos (nat_abs (a -ℤ b))), nat_abs-is (a -ℤ b), up-sub a b))

-- b is at most a with m and without n, and a is at most b with k: so n is at most m with k
pub budget : (a b : ℤ) (m n k : ℕ) → b ≤ℤ (a +ℤ (pos m -ℤ pos n)) → a ≤ℤ (b +ℤ pos k) → n ≤ m + k
budget a b m n k h j =
    omega
    (arith, (≤ℤ_iff b (a +ℤ (pos m -ℤ pos n))).0 h, (≤ℤ_iff a (b +ℤ pos k)).0 j, up-add a (pos m -ℤ pos n), up-sub (pos m) (pos n), up-add b (pos k))

-- where w and a are together no loss, b alone is at most w with what a and b are at most
pub cheaper : (w a b y z : ℤ) → pos 0 ≤ℤ (w +ℤ a) → y ≡ a +ℤ b → y ≤ℤ z → b ≤ℤ (w +ℤ z)
cheaper w a b y z h e k =
    (≤ℤ_iff b (w +ℤ z)).1
    (omega
    (arith, (≤ℤ_iff (pos 0) (w +ℤ a)).0 h, (≤ℤ_iff (a +ℤ b) z).0 (subst (λ x. x ≤ℤ z) e k), up-add w a, up-add a b, up-add w z))

-- what is added to z and gives no less than z is not below 0
pub not-less : (z w : ℤ) → z ≤ℤ (z +ℤ w) → pos 0 ≤ℤ w
not-less z w h = (≤ℤ_iff (pos 0) w).1 (omega (arith, (≤ℤ_iff z (z +ℤ w)).0 h, up-add z w))

-- what is not below 0 is nothing below 0
pub dn-none : (z : ℤ) → pos 0 ≤ℤ z → dn z ≡ 0
dn-none (pos n) h = refl
dn-none (negsuc n) h = absurd h.le

-- a difference of numbers up to c is from −c to c
pub sub_within : (a b c : ℕ) → a ≤ c → b ≤ c → ((pos a -ℤ pos b) ≤ℤ pos c) × (pos 0 ≤ℤ ((pos a -ℤ pos b) +ℤ pos c))
sub_within a b c h k =
    let z = pos a -ℤ pos b in
    let parts = up-sub (pos a) (pos b) in (
      (≤ℤ_iff z (pos c)).1 (omega (arith, parts)),
      (≤ℤ_iff (pos 0) (z +ℤ pos c)).1 (omega (arith, parts, up-add z (pos c))),
    )

-- a difference with less to take from and more to take is no greater
pub sub_mono : {a b c d : ℕ} → a ≤ c → d ≤ b → (pos a -ℤ pos b) ≤ℤ (pos c -ℤ pos d)
sub_mono {a} {b} {c} {d} h k =
    (≤ℤ_iff (pos a -ℤ pos b) (pos c -ℤ pos d)).1 (omega (arith, up-sub (pos a) (pos b), up-sub (pos c) (pos d)))

-- a difference below 0 takes more than there is
pub sub_negative : (a b : ℕ) → (pos a -ℤ pos b) <ℤ pos 0 → a < b
sub_negative a b h = omega (arith, (<ℤ-iff (pos a -ℤ pos b) (pos 0)).0 h, up-sub (pos a) (pos b))
