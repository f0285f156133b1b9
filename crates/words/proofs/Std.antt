-- What std writes and reads of bytes, as the model has it: a part of a slice that is written, and the bytes of a number, the most significant
-- first.
-- Assumes nothing.
use mathlib.Core.Path.{◌≡◌, refl, sym, ap, ◌∙◌}
use mathlib.Core.Bool.{cond}
use mathlib.Core.List.{List, ◌∷◌, ◌++◌, append_assoc}
use Prim.Native.Nat.{ℕ, zero, suc, ◌+◌, ◌-◌, ◌^◌}
use native.Mathlib.Numerals.{one-add}
use native.Mathlib.Omega.{arith}
use lib.ListN.{length, take, drop}
use lib.Dec.{ltb}
use lib.IntN.{ℤ, pos, negsuc}
use lib.Seq.{take_all}
use borrow.Rule.Slice.PartMut.{put_mid, Post-is}
use Rattle.std.specs.Int.{w16, w32, w64, from_be_bytes, bytes_high_first, byte_at, cast_signed, cast_unsigned}
use Rattle.model.specs.Bytes.{number, bytes, signed, complement, overwrite}
use Rattle.words.proofs.Numbers.{bytes-append}
use Rattle.words.proofs.Words.{number-byte, number_more}

-- a part of n bytes that was written
pub part-written : (at n : ℕ) (m now bs : List ℕ) → now ≡ bs → length bs ≡ n → put_mid at (at + n - at) m now ≡ overwrite m at bs
unfolding overwrite
part-written at n m now bs same e =
    ap (λ (l : List ℕ). take at m ++ (l ++ drop (at + n - at) (drop at m))) same
    ∙ ap (λ (l : List ℕ). take at m ++ (bs ++ l)) (Post-is at (at + n) m (omega arith) ∙ ap (λ (k : ℕ). drop (at + k) m) (sym e))
    ∙ sym (append_assoc (take at m) bs (drop (at + length bs) m))

-- the number of two bytes, of four, of eight
pub be_2 : (bs : List ℕ) → length bs ≡ 2 → from_be_bytes w16 bs ≡ number bs
be_2 bs h = omega (arith, number-byte bs 0 (omega arith), number_more bs 0 1 (omega arith), ap number (take_all 2 bs (omega arith)))

pub be_4 : (bs : List ℕ) → length bs ≡ 4 → from_be_bytes w32 bs ≡ number bs
be_4 bs h =
    omega (
      arith,
      number-byte bs 0 (omega arith),
      number_more bs 0 1 (omega arith),
      number_more bs 0 2 (omega arith),
      number_more bs 0 3 (omega arith),
      ap number (take_all 4 bs (omega arith)),
    )

pub be_8 : (bs : List ℕ) → length bs ≡ 8 → from_be_bytes w64 bs ≡ number bs
be_8 bs h =
    omega (
      arith,
      number-byte bs 0 (omega arith),
      number_more bs 0 1 (omega arith),
      number_more bs 0 2 (omega arith),
      number_more bs 0 3 (omega arith),
      number_more bs 0 4 (omega arith),
      number_more bs 0 5 (omega arith),
      number_more bs 0 6 (omega arith),
      number_more bs 0 7 (omega arith),
      ap number (take_all 8 bs (omega arith)),
    )

-- and its bytes
pub high_first : (k n : ℕ) → bytes_high_first k n ≡ bytes k n
unfolding bytes
high_first zero n = refl
high_first (suc zero) n = refl
high_first (suc (suc k)) n =
    ap (λ (l : List ℕ). byte_at (suc k) n ∷ l) (high_first (suc k) n) ∙ sym (ap (λ (j : ℕ). bytes j n) (sym (one-add (suc k))) ∙ bytes-append 1 (suc k) n)

-- two's complement
pub signed-cast : (n : ℕ) → cast_signed w64 n ≡ signed n
unfolding signed
signed-cast n =
    let e : 2 ^ 64 - suc n ≡ 2 ^ 64 - 1 - n = omega arith in
    ap (λ (x : ℕ). cond (ltb n (2 ^ 63)) (pos n) (negsuc x)) e

pub complement-cast : (z : ℤ) → cast_unsigned w64 z ≡ complement z
unfolding complement
complement-cast (pos n) = refl
complement-cast (negsuc n) = omega arith
