-- Laws of numbers packed in one. Assumes nothing.
use mathlib.Core.Path.{◌≡◌, refl, sym, ap, ap₂, subst, ◌∙◌}
use mathlib.Core.List.{List, [], ◌∷◌, ◌++◌, append_assoc, append-nil}
use Prim.Native.Nat.{ℕ, zero, suc, ◌+◌, ◌-◌, ◌*◌, ◌/◌, ◌%◌, ◌^◌, ◌≤◌, ◌<◌}
use native.Mathlib.Nat.{add-zero, mul-one, mul_assoc, pow-zero, pow-succ', one-le-pow, mod-lt, mod-eq_of_lt, mod-one, mul-add-mod_self_right, mul-add-div_right, mul-lt-mul_of_pos_right, sub-zero, suc-sub-suc, le_of_suc-le-suc, not-suc-le-zero}
use native.Mathlib.Omega.{arith}
use lib.Arith.{digits_lt, digits_div, digits_mod, mod-mul}
use lib.Dec.{lit<}
use lib.ListN.{length, get_or, replicate}
use lib.Pow.{pow-add}
use Rattle.model.specs.Bytes.{number, bytes}
use Rattle.model.specs.Limits.{max_tasks}
use Rattle.model.specs.Lists.{flat_map}
use Rattle.model.proofs.Lists.{flat_map-append, flat_map-length}
use Rattle.words.specs.Packed.{field_base, packed, fields, unpacked}
use Rattle.words.proofs.Numbers.{number_append, number-bytes, bytes-length, bytes-append, bytes-mod}

-- every number has two bytes; past the end stands 0
abbrev pub AreFields : List ℕ → Type 0
AreFields ns = (i : ℕ) → get_or ns i 0 < field_base

base_pos : (k : ℕ) → 0 < field_base ^ k
base_pos k = one-le-pow k field_base (lit< tt)

two_more : (k : ℕ) → 2 * suc k ≡ 2 + 2 * k
two_more k = omega arith

base_pow : (k : ℕ) → 256 ^ (2 * k) ≡ field_base ^ k
base_pow zero = refl
base_pow (suc k) = rw (two_more k, pow-add 256 2 (2 * k), base_pow k, pow-succ' field_base k)

bytes-each : (ns : List ℕ) → length (flat_map (bytes 2) ns) ≡ 2 * length ns
bytes-each ns = flat_map-length (bytes 2) 2 ns (bytes-length 2)

-- a shift by whole numbers
pub base_shift : (k : ℕ) → 2 ^ (16 * k) ≡ field_base ^ k
base_shift zero = refl
base_shift (suc k) = let more : 16 * suc k ≡ 16 + 16 * k = omega arith in rw (more, pow-add 2 16 (16 * k), base_shift k, pow-succ' field_base k)

-- ---- one number more

pub packed-cons : (n : ℕ) (ns : List ℕ) → n < field_base → packed (n ∷ ns) ≡ n * field_base ^ length ns + packed ns
unfolding packed
packed-cons n ns h =
    rw (number_append (bytes 2 n) (flat_map (bytes 2) ns), number-bytes 2 n h, bytes-each ns, base_pow (length ns))

pub packed_snoc : (ns : List ℕ) (n : ℕ) → n < field_base → packed (ns ++ (n ∷ [])) ≡ packed ns * field_base + n
unfolding packed
packed_snoc ns n h =
    rw (flat_map-append (bytes 2) ns (n ∷ []), append-nil (bytes 2 n), number_append (flat_map (bytes 2) ns) (bytes 2 n), bytes-length 2 n, number-bytes 2 n h)

pub packed-zeros : (ns : List ℕ) (k : ℕ) → packed (ns ++ replicate k 0) ≡ packed ns * field_base ^ k
packed-zeros ns zero = rw (append-nil, pow-zero, mul-one)
packed-zeros ns (suc k) =
    ap packed (sym (append_assoc ns (0 ∷ []) (replicate k 0))) ∙ packed-zeros (ns ++ (0 ∷ [])) k
    ∙ rw (packed_snoc ns 0 (lit< tt), add-zero, mul_assoc, pow-succ' field_base k)

pub packed_lt : (ns : List ℕ) → AreFields ns → packed ns < field_base ^ length ns
unfolding packed number
packed_lt [] h = lit< tt
packed_lt (n ∷ ns) h =
    rw (packed-cons n ns (h 0), pow-succ') (digits_lt (h 0) (packed_lt ns (λ i. h (suc i))))

-- j numbers with zeros behind them to make k
pub shifted_lt : (n j k : ℕ) → n < field_base ^ j → j ≤ k → n * field_base ^ (k - j) < field_base ^ k
shifted_lt n j k h le =
    let e : k ≡ j + (k - j) = omega arith in
    subst (λ (x : ℕ). n * field_base ^ (k - j) < x) (sym (ap (λ (m : ℕ). field_base ^ m) e ∙ pow-add field_base j (k - j)))
    (mul-lt-mul_of_pos_right h (base_pos (k - j)))

-- ---- the bytes

pub packed-bytes : (ns : List ℕ) → AreFields ns → bytes (2 * length ns) (packed ns) ≡ flat_map (bytes 2) ns
unfolding packed bytes number
packed-bytes [] h = refl
packed-bytes (n ∷ ns) h =
    let low : packed ns < 256 ^ (2 * length ns) = rw (base_pow (length ns)) (packed_lt ns (λ i. h (suc i))) in
    let is : packed (n ∷ ns) ≡ n * 256 ^ (2 * length ns) + packed ns = packed-cons n ns (h 0) ∙ rw (base_pow (length ns)) in
    rw (two_more (length ns), bytes-append 2 (2 * length ns) (packed (n ∷ ns)), is, digits_div n low)
    (ap (λ l. bytes 2 n ++ l) (sym (bytes-mod (2 * length ns) (n * 256 ^ (2 * length ns) + packed ns)) ∙ ap (bytes (2 * length ns)) (digits_mod n low) ∙ packed-bytes ns (λ i. h (suc i))))

-- the eight bytes of four
pub packed_eight : (ns : List ℕ) → AreFields ns → length ns ≡ 4 → bytes 8 (packed ns) ≡ flat_map (bytes 2) ns
packed_eight ns h four = ap (λ (k : ℕ). bytes (2 * k) (packed ns)) (sym four) ∙ packed-bytes ns h

-- ---- and back

pub fields-length : (k n : ℕ) → length (fields k n) ≡ k
unfolding fields
fields-length zero n = refl
fields-length (suc k) n = ap suc (fields-length k n)

-- the i-th number
pub get_or-fields : (k n i : ℕ) → i < k → get_or (fields k n) i 0 ≡ n / field_base ^ (k - suc i) % field_base
unfolding fields
get_or-fields zero n i h = absurd (not-suc-le-zero h)
get_or-fields (suc k) n zero h = rw (suc-sub-suc, sub-zero)
get_or-fields (suc k) n (suc i) h = rw suc-sub-suc (get_or-fields k n i (le_of_suc-le-suc h))

pub fields-below : (k n : ℕ) → AreFields (fields k n)
unfolding fields
fields-below zero n i = lit< tt
fields-below (suc k) n zero = mod-lt (n / field_base ^ k) (lit< tt)
fields-below (suc k) n (suc i) = fields-below k n i

-- higher numbers don't count
fields-high : (k a n : ℕ) → fields k (a * field_base ^ k + n) ≡ fields k n
unfolding fields
fields-high zero a n = refl
fields-high (suc k) a n =
    ap₂ (λ x l. x ∷ l) (ap (λ (x : ℕ). x % field_base) (ap (λ (x : ℕ). (x + n) / field_base ^ k) high ∙ mul-add-div_right (base_pos k) (a * field_base) n) ∙ mul-add-mod_self_right a field_base (n / field_base ^ k))
    (ap (λ (x : ℕ). fields k (x + n)) high ∙ fields-high k (a * field_base) n)
  where
    high : a * field_base ^ suc k ≡ a * field_base * field_base ^ k
    high = rw (pow-succ' field_base k, mul_assoc)

pub fields-packed : (ns : List ℕ) → AreFields ns → fields (length ns) (packed ns) ≡ ns
unfolding fields
fields-packed [] h = refl
fields-packed (n ∷ ns) h =
    let low : packed ns < field_base ^ length ns = packed_lt ns (λ i. h (suc i)) in
    ap₂ (λ x l. x ∷ l) (rw (packed-cons n ns (h 0), digits_div n low) (mod-eq_of_lt (h 0)))
    (ap (fields (length ns)) (packed-cons n ns (h 0)) ∙ fields-high (length ns) n (packed ns) ∙ fields-packed ns (λ i. h (suc i)))

-- of four
pub unpacked-packed : (ns : List ℕ) → AreFields ns → length ns ≡ max_tasks → unpacked (packed ns) ≡ ns
unpacked-packed ns h four = ap (λ (k : ℕ). fields k (packed ns)) (sym four) ∙ fields-packed ns h

pub packed-fields : (k n : ℕ) → packed (fields k n) ≡ n % field_base ^ k
unfolding fields packed number
packed-fields zero n = sym (mod-one n)
packed-fields (suc k) n =
    packed-cons (n / field_base ^ k % field_base) (fields k n) (mod-lt (n / field_base ^ k) (lit< tt))
    ∙ rw (fields-length k n, packed-fields k n, pow-succ') (sym (mod-mul n (lit< tt) (base_pos k)))

pub packed-unpacked : (n : ℕ) → n < field_base ^ max_tasks → packed (unpacked n) ≡ n
packed-unpacked n h = packed-fields max_tasks n ∙ mod-eq_of_lt h
