-- Laws of the rows in memory. Assumes nothing.
use mathlib.Core.Path.{◌≡◌, sym, ap, ◌∙◌}
use mathlib.Core.List.{List, [], ◌∷◌, ◌++◌, map, map-append}
use Prim.Native.Nat.{ℕ, ◌+◌, ◌*◌, ◌/◌, ◌%◌, ◌<◌}
use native.Mathlib.Nat.{zero-add, mod-lt, div-lt_iff_lt-mul, not-suc-le-zero}
use native.Mathlib.Omega.{arith}
use lib.Dec.{lit<}
use lib.ListN.{length, get_or, drop, length-map}
use lib.Seq.{ext_get_or, get_or-take, get_or-drop}
use Rattle.model.specs.Bytes.{number, part}
use Rattle.model.specs.Lists.{up_from}
use Rattle.model.proofs.Lists.{length-up_from, get_or-table, up_from-append}
use Rattle.store.specs.Store.{row_bytes, row_at, rows_in, Distinct, hash_base, hash_step, hash_words, cell_bytes, hash_of, hashes}

-- a byte of a row
pub row-byte : (m : List ℕ) (j i : ℕ) → i < row_bytes → get_or (row_at m j) i 0 ≡ get_or m (row_bytes * j + i) 0
row-byte m j i h = get_or-take row_bytes (drop (row_bytes * j) m) i 0 h ∙ get_or-drop (row_bytes * j) m i 0

pub rows-length : (m : List ℕ) (n : ℕ) → length (rows_in m n) ≡ n
unfolding rows_in
rows-length m n = length-map (up_from 0 n) (row_at m) ∙ length-up_from 0 n

pub rows_at : (m : List ℕ) (n j : ℕ) → j < n → get_or (rows_in m n) j [] ≡ row_at m j
unfolding rows_in
rows_at m n j h = get_or-table (row_at m) n j [] h

pub rows_more : (m : List ℕ) (n : ℕ) → rows_in m (n + 1) ≡ rows_in m n ++ (row_at m n ∷ [])
unfolding rows_in
rows_more m n =
    ap (map (row_at m)) (up_from-append 0 n 1) ∙ map-append (row_at m) (up_from 0 n) (up_from (0 + n) 1)
    ∙ ap (λ (j : ℕ). map (row_at m) (up_from 0 n) ++ (row_at m j ∷ [])) (zero-add n)

pub rows_same : (m m' : List ℕ) (n : ℕ) → ((j : ℕ) → j < n → row_at m j ≡ row_at m' j) → rows_in m n ≡ rows_in m' n
rows_same m m' n same =
    ext_get_or [] (rows_in m n) (rows_in m' n) (rows-length m n ∙ sym (rows-length m' n))
    (λ j below. let h : j < n = omega (arith, rows-length m n) in rows_at m n j h ∙ same j h ∙ sym (rows_at m' n j h))

-- where there are no rows, no two are equal
pub distinct_none : (m : List ℕ) → Distinct (rows_in m 0)
unfolding rows_in
distinct_none m = record { apart = λ i j below. absurd (not-suc-le-zero below) }

-- a hash is below their number
pub hash_lt : (bs : List ℕ) → hash_of bs < hashes
unfolding hash_of
hash_lt bs = high (hash_step (hash_words bs (cell_bytes / 4)) (number (part bs cell_bytes 3)) * 2654435769 + 0)
  where
    high : (n : ℕ) → n % hash_base / 4194304 < hashes
    high n = let low : n % hash_base < hashes * 4194304 = mod-lt n (lit< tt) in (div-lt_iff_lt-mul {k = 4194304} (lit< tt)).1 low
