-- Laws of numbers that stand in bytes one after another, over their width. Assumes nothing.
use mathlib.Core.Path.{◌≡◌, sym, ap, ap₂, subst, ◌∙◌}
use mathlib.Core.List.{List, [], ◌∷◌, ◌++◌, append_assoc}
use Prim.Native.Nat.{ℕ, zero, suc, ◌+◌, ◌*◌, ◌^◌, ◌≤◌, ◌<◌}
use native.Mathlib.Nat.{add-zero, mul-zero, mul-suc, le_of_suc-le-suc, not-suc-le-zero}
use native.Mathlib.Omega.{arith}
use lib.ListN.{length, get_or, take, drop, take-append-drop}
use lib.Seq.{take_at, drop_at, drop-drop}
use Rattle.model.specs.Bytes.{number, bytes, part}
use Rattle.model.specs.Lists.{flat_map, up_from}
use Rattle.model.proofs.Lists.{flat_map_snoc}
use Rattle.words.proofs.Memory.{part_length}
use Rattle.words.proofs.Numbers.{AreBytes, number_lt, number-bytes, bytes-length, bytes-number}
use Rattle.words.proofs.Words.{part_bytes}

-- ---- written, and read

-- a number is read from the bytes that it is written in
pub field-read : (k n : ℕ) (rest : List ℕ) → n < 256 ^ k → number (take k (bytes k n ++ rest)) ≡ n
field-read k n rest h = ap number (take_at (bytes k n) rest k (bytes-length k n)) ∙ number-bytes k n h

-- what follows comes next
pub field-rest : (k n : ℕ) (rest : List ℕ) → drop k (bytes k n ++ rest) ≡ rest
field-rest k n rest = drop_at (bytes k n) rest k (bytes-length k n)

-- one number of many
pub field_at : (k : ℕ) (ns rest : List ℕ) (i : ℕ) → i < length ns → get_or ns i 0 < 256 ^ k →
    number (part (flat_map (bytes k) ns ++ rest) (k * i) k) ≡ get_or ns i 0
field_at k [] rest i h small = absurd (not-suc-le-zero h)
field_at k (n ∷ ns) rest zero h small =
    ap₂ (λ (j : ℕ) l. number (part l j k)) (mul-zero k) (append_assoc (bytes k n) (flat_map (bytes k) ns) rest)
    ∙ field-read k n (flat_map (bytes k) ns ++ rest) small
field_at k (n ∷ ns) rest (suc i) h small =
    let next : k * suc i ≡ k + k * i = rw mul-suc (omega arith) in
    ap₂ (λ (j : ℕ) l. number (part l j k)) next (append_assoc (bytes k n) (flat_map (bytes k) ns) rest)
    ∙ ap (λ l. number (take k l)) (sym (drop-drop (k * i) k (bytes k n ++ (flat_map (bytes k) ns ++ rest))))
    ∙ ap (λ l. number (part l (k * i) k)) (field-rest k n (flat_map (bytes k) ns ++ rest))
    ∙ field_at k ns rest i (le_of_suc-le-suc h) small

-- ---- read, and written

-- a number that was read fits its bytes
pub field_lt : (bs : List ℕ) (at k : ℕ) → AreBytes bs → at + k ≤ length bs → number (part bs at k) < 256 ^ k
field_lt bs at k h fits = subst (λ (n : ℕ). number (part bs at k) < 256 ^ n) (part_length bs at k fits) (number_lt (part bs at k) (part_bytes bs at k h))

-- and is written as the bytes that it was read from
pub field-written : (bs : List ℕ) (at k : ℕ) → AreBytes bs → at + k ≤ length bs → bytes k (number (part bs at k)) ++ drop (at + k) bs ≡ drop at bs
field-written bs at k h fits =
    ap₂ (λ (m : ℕ) l. bytes m (number (part bs at k)) ++ l) (sym (part_length bs at k fits)) (sym (drop-drop k at bs))
    ∙ ap (λ t. t ++ drop k (drop at bs)) (bytes-number (part bs at k) (part_bytes bs at k h)) ∙ take-append-drop k (drop at bs)

-- so are many
pub fields-written : (bs : List ℕ) (at k n : ℕ) → AreBytes bs → at + k * n ≤ length bs →
    flat_map (λ i. bytes k (number (part bs (at + k * i) k))) (up_from 0 n) ++ drop (at + k * n) bs ≡ drop at bs
fields-written bs at k zero h fits = rw (mul-zero, add-zero)
fields-written bs at k (suc n) h fits =
    let next : at + k * suc n ≡ at + k * n + k = rw mul-suc (omega arith) in
    ap₂ (λ l (i : ℕ). l ++ drop i bs) (flat_map_snoc field n) next
    ∙ append_assoc (flat_map field (up_from 0 n)) (field n) (drop (at + k * n + k) bs)
    ∙ ap (λ l. flat_map field (up_from 0 n) ++ l) (field-written bs (at + k * n) k h (omega (arith, next)))
    ∙ fields-written bs at k n h (omega (arith, next))
  where
    field : ℕ → List ℕ
    field i = bytes k (number (part bs (at + k * i) k))
