-- Laws of numbers as bytes, over the width. Assumes nothing.
use mathlib.Core.Path.{◌≡◌, refl, sym, ap, ◌∙◌}
use mathlib.Core.List.{List, [], ◌∷◌, ◌++◌, append_assoc, append-nil, foldl, foldl-append}
use Prim.Native.Nat.{ℕ, zero, suc, ◌+◌, ◌*◌, ◌/◌, ◌%◌, ◌^◌, ◌<◌}
use native.Mathlib.Nat.{add-zero, zero-add, add-suc, mul_assoc, add-mul, pow-suc, pow-succ', one-le-pow, mod-lt, mod-eq_of_lt, div-add-mod', div-div-eq-div-mul, div-one, div-lt_iff_lt-mul}
use native.Mathlib.Numerals.{add-one, one-add}
use native.Mathlib.Omega.{arith}
use lib.Arith.{digits_lt, digits_div, digits_mod, mod-mul}
use lib.ListN.{length, get_or, length-append}
use lib.Dec.{lit<}
use Rattle.model.specs.Bytes.{number, bytes}

-- every element is a byte; past the end stands 0
abbrev pub AreBytes : List ℕ → Type 0
AreBytes bs = (i : ℕ) → get_or bs i 0 < 256

-- the bytes after a number n
after : ℕ → List ℕ → ℕ
after n bs = foldl (λ n b. n * 256 + b) n bs

spread : (n b p : ℕ) → (n * 256 + b) * p ≡ n * (256 * p) + b * p
spread n b p = rw (add-mul, mul_assoc)

after_is : (n : ℕ) (bs : List ℕ) → after n bs ≡ n * 256 ^ length bs + after 0 bs
unfolding after
after_is n [] = omega arith
after_is n (b ∷ bs) =
    rw (zero-add, pow-succ') (omega (arith, after_is (n * 256 + b) bs, after_is b bs, spread n b (256 ^ length bs)))

pub number_append : (xs ys : List ℕ) → number (xs ++ ys) ≡ number xs * 256 ^ length ys + number ys
unfolding number after
number_append xs ys = foldl-append (λ n b. n * 256 + b) 0 xs ys ∙ after_is (number xs) ys

-- the most significant byte first
pub number-cons : (b : ℕ) (bs : List ℕ) → number (b ∷ bs) ≡ b * 256 ^ length bs + number bs
unfolding number after
number-cons b bs = rw zero-add (after_is b bs)

pub number_single : (b : ℕ) → number (b ∷ []) ≡ b
unfolding number
number_single b = zero-add b

-- and the least significant last
pub number_snoc : (bs : List ℕ) (b : ℕ) → number (bs ++ (b ∷ [])) ≡ number bs * 256 + b
number_snoc bs b = number_append bs (b ∷ []) ∙ ap (λ (x : ℕ). number bs * 256 + x) (number_single b)

pub number_lt : (bs : List ℕ) → AreBytes bs → number bs < 256 ^ length bs
unfolding number
number_lt [] h = omega arith
number_lt (b ∷ bs) h = rw (number-cons, pow-succ') (digits_lt (h 0) (number_lt bs (λ i. h (suc i))))

pub bytes-length : (k n : ℕ) → length (bytes k n) ≡ k
unfolding bytes
bytes-length zero n = refl
bytes-length (suc k) n = rw (length-append, bytes-length k (n / 256)) (add-one k)

pub bytes-append : (j k n : ℕ) → bytes (j + k) n ≡ bytes j (n / 256 ^ k) ++ bytes k n
unfolding bytes
bytes-append j zero n = rw (add-zero, div-one, append-nil)
bytes-append j (suc k) n =
    rw (add-suc, bytes-append j k (n / 256), div-div-eq-div-mul, ← pow-succ' 256 k, append_assoc)

-- the low bytes are all that is written
pub bytes-mod : (k n : ℕ) → bytes k (n % 256 ^ k) ≡ bytes k n
unfolding bytes
bytes-mod zero n = refl
bytes-mod (suc k) n =
    rw (pow-suc 256 k, mod-mul n (one-le-pow k 256 (lit< tt)) (lit< tt), digits_div (n / 256 % 256 ^ k) (mod-lt n (lit< tt)), digits_mod (n / 256 % 256 ^ k) (mod-lt n (lit< tt)), bytes-mod k (n / 256))

pub number-bytes : (k n : ℕ) → n < 256 ^ k → number (bytes k n) ≡ n
unfolding number bytes
number-bytes zero n h = omega arith
number-bytes (suc k) n h =
    rw (number_snoc (bytes k (n / 256)) (n % 256), number-bytes k (n / 256) ((div-lt_iff_lt-mul (lit< tt)).1 (rw pow-suc at h))) (div-add-mod' n 256)

pub bytes-number : (bs : List ℕ) → AreBytes bs → bytes (length bs) (number bs) ≡ bs
unfolding number bytes
bytes-number [] h = refl
bytes-number (b ∷ bs) h =
    let below : number bs < 256 ^ length bs = number_lt bs (λ i. h (suc i)) in
    let high : number (b ∷ bs) / 256 ^ length bs ≡ b = ap (λ (x : ℕ). x / 256 ^ length bs) (number-cons b bs) ∙ digits_div b below in
    let low : number (b ∷ bs) % 256 ^ length bs ≡ number bs = ap (λ (x : ℕ). x % 256 ^ length bs) (number-cons b bs) ∙ digits_mod b below in
    ap (λ (k : ℕ). bytes k (number (b ∷ bs))) (sym (one-add (length bs))) ∙ bytes-append 1 (length bs) (number (b ∷ bs))
    ∙ ap (λ (x : ℕ). bytes 1 x ++ bytes (length bs) (number (b ∷ bs))) high
    ∙ ap (λ (x : ℕ). x ∷ bytes (length bs) (number (b ∷ bs))) (mod-eq_of_lt (h 0))
    ∙ ap (λ (l : List ℕ). b ∷ l) (sym (bytes-mod (length bs) (number (b ∷ bs))) ∙ ap (bytes (length bs)) low ∙ bytes-number bs (λ i. h (suc i)))
