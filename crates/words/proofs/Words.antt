-- Laws of numbers in memory, over the place and the width. Assumes nothing.
use mathlib.Core.Path.{◌≡◌, ap, ◌∙◌}
use mathlib.Core.List.{List}
use Prim.Native.Nat.{ℕ, ◌+◌, ◌*◌, ◌/◌, ◌%◌, ◌^◌, ◌≤◌, ◌<◌}
use native.Mathlib.Nat.{mod-eq_of_lt}
use native.Mathlib.Decide.{dec_lt}
use native.Mathlib.Omega.{arith}
use lib.Dec.{lit<}
use lib.ListN.{length, get_or, set, drop, length-take, get_or-eq_default}
use lib.Seq.{take-add, drop-drop, drop-cons, get_or-take, get_or-drop}
use Rattle.model.specs.Bytes.{number, bytes, part, overwrite}
use Rattle.words.proofs.Memory.{overwrite-one, overwrite_join, overwrite-part, part_length, part-more}
use Rattle.words.proofs.Numbers.{AreBytes, number_append, number_single, number_snoc, number-bytes, bytes-length, bytes-append, bytes-mod}

-- a part's number, from the numbers of its two parts
pub number-part : (m : List ℕ) (at j k : ℕ) → at + j + k ≤ length m
    → number (part m at (j + k)) ≡ number (part m at j) * 256 ^ k + number (part m (at + j) k)
number-part m at j k fits =
    rw (take-add j k (drop at m), drop-drop j at m, number_append, part_length m (at + j) k fits)

pub number-byte : (m : List ℕ) (at : ℕ) → at < length m → number (part m at 1) ≡ get_or m at 0
number-byte m at h = rw (drop-cons m at 0 h) (number_single (get_or m at 0))

-- and from the bytes before its last one
pub number_more : (m : List ℕ) (at k : ℕ) → at + k < length m
    → number (part m at (k + 1)) ≡ number (part m at k) * 256 + get_or m (at + k) 0
number_more m at k fits = rw (part-more m at k fits) (number_snoc (part m at k) (get_or m (at + k) 0))

-- a number is written as its high part, and then its low part
pub overwrite-bytes : (m : List ℕ) (at j k n : ℕ) → at + j + k ≤ length m
    → overwrite (overwrite m at (bytes j (n / 256 ^ k % 256 ^ j))) (at + j) (bytes k (n % 256 ^ k)) ≡ overwrite m at (bytes (j + k) n)
overwrite-bytes m at j k n fits =
    rw (bytes-mod j (n / 256 ^ k), bytes-mod k n, bytes-append j k n)
    (rw (bytes-length j (n / 256 ^ k)) at (overwrite_join m at (bytes j (n / 256 ^ k)) (bytes k n) (omega (arith, bytes-length j (n / 256 ^ k), bytes-length k n))))

-- a byte is written by a store
pub overwrite-byte : (m : List ℕ) (at b : ℕ) → at < length m → b < 256 → set m at b ≡ overwrite m at (bytes 1 b)
unfolding bytes
overwrite-byte m at b h small = rw (mod-eq_of_lt small) (overwrite-one m at b h)

-- a number that was written is read back
pub number-overwrite : (m : List ℕ) (at k n : ℕ) → at + k ≤ length m → n < 256 ^ k
    → number (part (overwrite m at (bytes k n)) at k) ≡ n
number-overwrite m at k n fits small =
    ap number (rw (bytes-length k n) at (overwrite-part m at (bytes k n) (omega (arith, bytes-length k n)))) ∙ number-bytes k n small

-- a part of numbers below b is below b
pub part-below : (b : ℕ) → 0 < b → (m : List ℕ) (at k : ℕ) → ((i : ℕ) → get_or m i 0 < b) → (i : ℕ) → get_or (part m at k) i 0 < b
part-below b pos m at k h i = by (dec_lt i k)
  where
    by : Dec (i < k) → get_or (part m at k) i 0 < b
    by (yes below) = rw (get_or-take, get_or-drop) (h (at + i))
    by (no past) = rw (get_or-eq_default (part m at k) 0 {n = i} (omega (arith, length-take k (drop at m)))) pos

-- what stands in a part of bytes is bytes
pub part_bytes : (m : List ℕ) (at k : ℕ) → AreBytes m → AreBytes (part m at k)
part_bytes = part-below 256 (lit< tt)

pub drop-bytes : (k : ℕ) (m : List ℕ) → AreBytes m → AreBytes (drop k m)
drop-bytes k m h i = rw get_or-drop (h (k + i))
