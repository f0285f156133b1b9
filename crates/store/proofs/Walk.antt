-- The walk down the chain of a row's hash. Assumes nothing.
use mathlib.Core.Path.{◌≡◌, sym, ap, ◌∙◌}
use mathlib.Core.List.{List}
use Prim.Native.Nat.{ℕ, suc, ◌≤◌, ◌<◌}
use native.Mathlib.Decide.{dec_lt}
use native.Mathlib.Omega.{arith}
use Rattle.store.specs.Store.{row_at, rows_in, index_in, Distinct, hash_of, hash_at, last_of}
use Rattle.store.proofs.Index.{last-le, last-is, last-above}
use Rattle.store.proofs.Rows.{rows-length, rows_at}
use Rattle.store.proofs.Search.{index_at, index-none}

-- the walk has come to the row before `next`: it has the hash, and the rows from `next` on are others
pub record Walked (m : List ℕ) (n : ℕ) (row : List ℕ) (next : ℕ) : Type 0 where
  pub within : next ≤ n
  pub here : (j : ℕ) → next ≡ suc j → hash_at m j ≡ hash_of row
  pub others : (j : ℕ) → next ≤ j → j < n → row_at m j ≡ row → ⊥

-- the last row of the hash before k, where the rows from k on are others
walked_last : (m : List ℕ) (n : ℕ) (row : List ℕ) (k : ℕ) → k ≤ n → ((j : ℕ) → k ≤ j → j < n → row_at m j ≡ row → ⊥)
    → Walked m n row (last_of (hash_at m) (hash_of row) k)
walked_last m n row k within others = record {
  within = omega (arith, last-le (hash_at m) (hash_of row) k);
  here = last-is (hash_at m) (hash_of row) k;
  others = λ j from below e. go j from below e (dec_lt j k);
}
  where
    go : (j : ℕ) → last_of (hash_at m) (hash_of row) k ≤ j → j < n → row_at m j ≡ row → Dec (j < k) → ⊥
    go j from below e (yes h) = last-above (hash_at m) (hash_of row) k j from h (ap hash_of e)
    go j from below e (no h) = others j (omega arith) below e

pub walked_start : (m : List ℕ) (n : ℕ) (row : List ℕ) → Walked m n row (last_of (hash_at m) (hash_of row) n)
walked_start m n row = walked_last m n row n (omega arith) (λ j from below. absurd (omega arith))

pub walked_step : (m : List ℕ) (n : ℕ) (row : List ℕ) (next j : ℕ) → next ≡ suc j → Walked m n row next → (row_at m j ≡ row → ⊥)
    → Walked m n row (last_of (hash_at m) (hash_at m j) j)
walked_step m n row next j at w other =
    rw (w.here j at) (walked_last m n row j (omega arith) (λ i from below e. go i from below e (dec_lt j i)))
  where
    go : (i : ℕ) → j ≤ i → i < n → row_at m i ≡ row → Dec (j < i) → ⊥
    go i from below e (yes h) = w.others i (omega arith) below e
    go i from below e (no h) = let same : i ≡ j = omega arith in other (ap (row_at m) (sym same) ∙ e)

-- the walk ends at a row that is equal
pub walked_found : (m : List ℕ) (n : ℕ) (row : List ℕ) (j : ℕ) → Distinct (rows_in m n) → j < n → row_at m j ≡ row
    → j ≡ index_in (rows_in m n) row
walked_found m n row j distinct below e =
    sym (index_at j distinct (rw rows-length below) (rows_at m n j below ∙ e))

-- or past the first row
pub walked_out : (m : List ℕ) (n : ℕ) (row : List ℕ) (next : ℕ) → next ≡ 0 → Walked m n row next → n ≡ index_in (rows_in m n) row
walked_out m n row next at w =
    sym (index-none (rows_in m n) row (λ j h e.
    let below : j < n = omega (arith, rows-length m n) in
    w.others j (omega arith) below (sym (rows_at m n j below) ∙ e)) ∙ rows-length m n)
