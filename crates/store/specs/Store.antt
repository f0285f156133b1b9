-- Rows of bytes in lent memory, numbered in order and found by their contents.
use Rattle.std.specs.Prelude.{◌≡◌, cond, List, [], ◌∷◌, ◌++◌, map, ℕ, zero, suc, ◌+◌, ◌-◌, ◌*◌, ◌/◌, ◌%◌, ◌^◌, ◌<◌, ◌≤◌, eqb, ltb, length, get_or}
use Rattle.model.specs.Bytes.{number, part, Only}
use Rattle.model.specs.Discovery.{number_in}
use Rattle.model.specs.Limits.{max_tasks, max_window, max_nodes}
use Rattle.model.specs.Lists.{up_from, same_numbers}
use Rattle.std.specs.Prelude as rust
use Rattle.std.specs.Prelude.{None, Some}
use Rattle.store.specs.declared.Place.{Place}

-- the bytes of a row, a node's cells, two of its pattern and one of its state; the most rows, and the number of hashes
abbrev pub cell_bytes : ℕ
cell_bytes = max_tasks * (max_window - 1)

abbrev pub row_bytes : ℕ
row_bytes = cell_bytes + 3

abbrev pub max_rows : ℕ
max_rows = max_nodes

abbrev pub hashes : ℕ
hashes = 1024

-- the rows stand first; then two bytes for each hash; then two bytes for each row
abbrev pub buckets_at : ℕ
buckets_at = row_bytes * max_rows

abbrev pub chain_at : ℕ
chain_at = buckets_at + 2 * hashes

abbrev pub store_bytes : ℕ
store_bytes = chain_at + 2 * max_rows

-- the j-th row
abbrev pub row_at : List ℕ → ℕ → List ℕ
row_at memory j = part memory (row_bytes * j) row_bytes

-- the first n rows
unfoldable pub rows_in : List ℕ → ℕ → List (List ℕ)
rows_in memory n = map (row_at memory) (up_from 0 n)

-- the place of the first row equal to this one; the number of rows where there is none
unfoldable pub index_in : List (List ℕ) → List ℕ → ℕ
index_in = number_in same_numbers

-- the number of a row that is found among n, n where none is
abbrev pub index_or : ℕ → rust.Option ℕ → ℕ
index_or n None = n
index_or n (Some i) = i

-- no two rows are equal
pub record Distinct (rows : List (List ℕ)) : Type 0 where
  pub apart : (i j : ℕ) → i < length rows → j < length rows → get_or rows i [] ≡ get_or rows j [] → i ≡ j

-- a row's hash: a polynomial in its words of four bytes, and in the pattern with the state as one word more; of it the highest bits
abbrev pub hash_base : ℕ
hash_base = 2 ^ 32

abbrev pub hash_step : ℕ → ℕ → ℕ
hash_step h w = (h * 2654435769 + w) % hash_base

unfoldable pub hash_words : List ℕ → ℕ → ℕ
hash_words row zero = 0
hash_words row (suc k) = hash_step (hash_words row k) (number (part row (4 * k) 4))

unfoldable pub hash_of : List ℕ → ℕ
hash_of row = hash_step (hash_step (hash_words row (cell_bytes / 4)) (number (part row cell_bytes 3))) 0 / 4194304

-- the last place before k where f is h, and 1; 0 where there is none
unfoldable pub last_of : (ℕ → ℕ) → ℕ → ℕ → ℕ
last_of f h zero = 0
last_of f h (suc k) = let before = last_of f h k in cond (eqb (f k) h) (suc k) before

abbrev pub hash_at : List ℕ → ℕ → ℕ
hash_at memory j = hash_of (row_at memory j)

-- a number of two bytes in the table from a place on
abbrev pub entry_at : List ℕ → ℕ → ℕ → ℕ
entry_at memory at i = number (part memory (at + 2 * i) 2)

-- the index of the first n rows: for each hash the last row that has it, for each row the one before it with its hash
pub record Indexed (memory : List ℕ) (n : ℕ) : Type 0 where
  pub few : n ≤ max_rows
  pub room : store_bytes ≤ length memory
  pub bucket : (h : ℕ) → h < hashes → entry_at memory buckets_at h ≡ last_of (hash_at memory) h n
  pub chain : (j : ℕ) → j < n → entry_at memory chain_at j ≡ last_of (hash_at memory) (hash_at memory j) j

-- what clearing the index leaves
pub record Cleared (memory memory' : List ℕ) : Type 0 where
  pub index : Indexed memory' 0
  pub only : Only 0 store_bytes memory memory'

-- what appending a row leaves
pub record Appended (memory memory' : List ℕ) (n : ℕ) (row : List ℕ) : Type 0 where
  pub rows : rows_in memory' (n + 1) ≡ rows_in memory n ++ (row ∷ [])
  pub index : Indexed memory' (n + 1)
  pub only : Only 0 store_bytes memory memory'

-- the rows with this one among them: appended where it is not there, unless there are the most
unfoldable pub rows_with : List (List ℕ) → List ℕ → List (List ℕ)
rows_with rows row = cond (ltb (index_in rows row) (length rows)) rows (cond (ltb (length rows) max_rows) (rows ++ (row ∷ [])) rows)

-- the answer: its index and the number of rows, if there is room
unfoldable pub found_in : List (List ℕ) → List ℕ → rust.Option Place
found_in rows row =
    cond (ltb (index_in rows row) (length rows)) (Some (record { index = index_in rows row; count = length rows }))
    (cond (ltb (length rows) max_rows) (Some (record { index = index_in rows row; count = length rows + 1 })) None)

-- how many rows there are after an answer
abbrev pub count_after : ℕ → rust.Option Place → ℕ
count_after n None = n
count_after n (Some p) = p.count

-- what finding or appending a row leaves
pub record Kept (memory memory' : List ℕ) (n : ℕ) (row : List ℕ) (r : rust.Option Place) : Type 0 where
  pub found : r ≡ found_in (rows_in memory n) row
  pub rows : rows_in memory' (count_after n r) ≡ rows_with (rows_in memory n) row
  pub index : Indexed memory' (count_after n r)
  pub distinct : Distinct (rows_in memory' (count_after n r))
  pub same : count_after n r ≡ n → memory' ≡ memory
  pub only : Only 0 store_bytes memory memory'
