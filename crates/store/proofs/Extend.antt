-- What appending a row writes, and that the index stays one. Assumes nothing.
use mathlib.Core.Path.{◌≡◌, sym, ap, ap₂, ◌∙◌}
use mathlib.Core.Logic.{◌⊎◌, inl, inr}
use mathlib.Core.List.{List, [], ◌∷◌, ◌++◌}
use Prim.Native.Nat.{ℕ, suc, ◌+◌, ◌*◌, ◌^◌, ◌≤◌, ◌<◌}
use native.Mathlib.Decide.{dec_lt, ℕ_discrete}
use native.Mathlib.Numerals.{add-one}
use native.Mathlib.Omega.{arith}
use lib.ListN.{length}
use Rattle.model.specs.Bytes.{number, bytes, part, overwrite, Only}
use Rattle.words.proofs.Free.{only_trans, overwrite-only}
use Rattle.words.proofs.Memory.{overwrite-length, overwrite-part, overwrite_frame}
use Rattle.words.proofs.Numbers.{bytes-length}
use Rattle.words.proofs.Words.{number-overwrite}
use Rattle.store.specs.Store.{row_bytes, max_rows, hashes, buckets_at, chain_at, store_bytes, row_at, hash_of, hash_at, last_of, entry_at, Indexed, Appended}
use Rattle.store.proofs.Index.{last-here, last_there, last-same, last-le}
use Rattle.store.proofs.Rows.{rows_more, rows_same, hash_lt}

-- memory after the row is written, after its entry in the chain is, and after the bucket is
abbrev pub with_row : List ℕ → ℕ → List ℕ → List ℕ
with_row m n row = overwrite m (row_bytes * n) row

abbrev pub with_entry : List ℕ → ℕ → ℕ → ℕ → List ℕ
with_entry m at i v = overwrite m (at + 2 * i) (bytes 2 v)

abbrev pub chained : List ℕ → ℕ → List ℕ → ℕ → List ℕ
chained m n row v = with_entry (with_row m n row) chain_at n v

abbrev pub appended : List ℕ → ℕ → List ℕ → ℕ → ℕ → List ℕ
appended m n row v h = with_entry (chained m n row v) buckets_at h (n + 1)

-- k bytes at a place, and k' at another, do not meet
abbrev Apart : ℕ → ℕ → ℕ → ℕ → Type 0
Apart at k at' k' = (at + k ≤ at') ⊎ (at' + k' ≤ at)

module _ (m : List ℕ) (at i v : ℕ) (fits : at + 2 * i + 2 ≤ length m) where
  inside : at + 2 * i + length (bytes 2 v) ≤ length m
  inside = rw bytes-length fits

  entry_length : length (with_entry m at i v) ≡ length m
  entry_length = overwrite-length m (at + 2 * i) (bytes 2 v) inside

  entry_frame : (at' k : ℕ) → Apart at' k (at + 2 * i) 2 → part (with_entry m at i v) at' k ≡ part m at' k
  entry_frame at' k apart = overwrite_frame m (at + 2 * i) (bytes 2 v) inside at' k (rw bytes-length apart)

  entry-only : at + 2 * i + 2 ≤ store_bytes → Only 0 store_bytes m (with_entry m at i v)
  entry-only within = overwrite-only m (at + 2 * i) (bytes 2 v) inside 0 store_bytes (omega arith) (rw bytes-length within)

  entry-put : v < 256 ^ 2 → entry_at (with_entry m at i v) at i ≡ v
  entry-put small = number-overwrite m (at + 2 * i) 2 v fits small

-- the row, its entry in the chain and its bucket are new, and all else is as it was
pub record Written (m m' : List ℕ) (n : ℕ) (row : List ℕ) (v h : ℕ) : Type 0 where
  pub long : length m' ≡ length m
  pub row_new : row_at m' n ≡ row
  pub row_old : (j : ℕ) → j < n → row_at m' j ≡ row_at m j
  pub chain_new : entry_at m' chain_at n ≡ v
  pub chain_old : (j : ℕ) → j < n → entry_at m' chain_at j ≡ entry_at m chain_at j
  pub bucket_new : entry_at m' buckets_at h ≡ n + 1
  pub bucket_old : (h' : ℕ) → h' < hashes → (h' ≡ h → ⊥) → entry_at m' buckets_at h' ≡ entry_at m buckets_at h'
  pub only : Only 0 store_bytes m m'

module _ (m : List ℕ) (n : ℕ) (row : List ℕ) (v h : ℕ) (room : store_bytes ≤ length m) (few : n < max_rows)
    (size : length row ≡ row_bytes) (hashed : h < hashes) (small : v < 256 ^ 2) where
  fits : row_bytes * n + length row ≤ length m
  fits = omega arith

  row-length : length (with_row m n row) ≡ length m
  row-length = overwrite-length m (row_bytes * n) row fits

  chained-length : length (chained m n row v) ≡ length m
  chained-length = entry_length (with_row m n row) chain_at n v (omega (arith, row-length)) ∙ row-length

  appended-length : length (appended m n row v h) ≡ length m
  appended-length = entry_length (chained m n row v) buckets_at h (n + 1) (omega (arith, chained-length)) ∙ chained-length

  -- a part that meets neither table's entry
  row_kept : (at k : ℕ) → Apart at k (chain_at + 2 * n) 2 → Apart at k (buckets_at + 2 * h) 2
      → part (appended m n row v h) at k ≡ part (with_row m n row) at k
  row_kept at k chain bucket =
      entry_frame (chained m n row v) buckets_at h (n + 1) (omega (arith, chained-length)) at k bucket ∙ entry_frame (with_row m n row) chain_at n v (omega (arith, row-length)) at k chain

  -- and not the row
  kept : (at k : ℕ) → Apart at k (row_bytes * n) row_bytes → Apart at k (chain_at + 2 * n) 2 → Apart at k (buckets_at + 2 * h) 2
      → part (appended m n row v h) at k ≡ part m at k
  kept at k apart chain bucket = row_kept at k chain bucket ∙ overwrite_frame m (row_bytes * n) row fits at k (rw size apart)

  apart_buckets : (h' : ℕ) → (h' ≡ h → ⊥) → Apart (buckets_at + 2 * h') 2 (buckets_at + 2 * h) 2
  apart_buckets h' other = go (dec_lt h' h)
    where
      go : Dec (h' < h) → Apart (buckets_at + 2 * h') 2 (buckets_at + 2 * h) 2
      go (yes l) = inl (omega arith)
      go (no l) = inr (omega arith)

  pub written : Written m (appended m n row v h) n row v h
  written =
      record {
        long = appended-length;
        row_new = row_kept (row_bytes * n) row_bytes (inl (omega arith)) (inl (omega arith))
            ∙ rw size at (overwrite-part m (row_bytes * n) row fits);
        row_old = λ j below. kept (row_bytes * j) row_bytes (inl (omega arith)) (inl (omega arith)) (inl (omega arith));
        chain_new = ap number (entry_frame (chained m n row v) buckets_at h (n + 1) (omega (arith, chained-length)) (chain_at + 2 * n) 2 (inr (omega arith)))
            ∙ entry-put (with_row m n row) chain_at n v (omega (arith, row-length)) small;
        chain_old = λ j below. ap number (kept (chain_at + 2 * j) 2 (inr (omega arith)) (inl (omega arith)) (inr (omega arith)));
        bucket_new = entry-put (chained m n row v) buckets_at h (n + 1) (omega (arith, chained-length)) (omega arith);
        bucket_old = λ h' below other. ap number (kept (buckets_at + 2 * h') 2 (inr (omega arith)) (inl (omega arith)) (apart_buckets h' other));
        only = only_trans (overwrite-only m (row_bytes * n) row fits 0 store_bytes (omega arith) (omega arith))
            (only_trans (entry-only (with_row m n row) chain_at n v (omega (arith, row-length)) (omega arith))
            (entry-only (chained m n row v) buckets_at h (n + 1) (omega (arith, chained-length)) (omega arith)));
      }

-- what a bucket holds is a row's number, and 1, or 0
pub held_small : (m : List ℕ) (n v h : ℕ) → Indexed m n → h < hashes → v ≡ entry_at m buckets_at h → v < 256 ^ 2
held_small m n v h index hashed held =
    let last = index.bucket h hashed in
    omega (arith, last-le (hash_at m) h n)

-- the row has this hash, and the entry in the chain is what the bucket held
module _ (m m' : List ℕ) (n : ℕ) (row : List ℕ) (v h : ℕ) (index : Indexed m n) (few : n < max_rows)
    (hashed : h ≡ hash_of row) (held : v ≡ entry_at m buckets_at h) (new : Written m m' n row v h) where
  hash_new : hash_at m' n ≡ h
  hash_new = ap hash_of new.row_new ∙ sym hashed

  hash_old : (j : ℕ) → j < n → hash_at m' j ≡ hash_at m j
  hash_old j below = ap hash_of (new.row_old j below)

  -- up to the new row, the last row of a hash is the same
  last_old : (h' k : ℕ) → k ≤ n → last_of (hash_at m) h' k ≡ last_of (hash_at m') h' k
  last_old h' k within = last-same (hash_at m) (hash_at m') h' k (λ j below. sym (hash_old j (omega arith)))

  bucket-after : (h' : ℕ) → h' < hashes → entry_at m' buckets_at h' ≡ last_of (hash_at m') h' (n + 1)
  bucket-after h' below = go (ℕ_discrete h' h) ∙ ap (last_of (hash_at m') h') (sym (add-one n))
    where
      go : Dec (h' ≡ h) → entry_at m' buckets_at h' ≡ last_of (hash_at m') h' (suc n)
      go (yes e) =
          ap (entry_at m' buckets_at) e ∙ new.bucket_new ∙ add-one n ∙ sym (last-here (hash_at m') h' n (hash_new ∙ sym e))
      go (no other) =
          new.bucket_old h' below other ∙ index.bucket h' below ∙ last_old h' n (omega arith)
          ∙ sym (last_there (hash_at m') h' n (λ e. other (sym e ∙ hash_new)))

  chain-after : (j : ℕ) → j < n + 1 → entry_at m' chain_at j ≡ last_of (hash_at m') (hash_at m' j) j
  chain-after j below = go (dec_lt j n)
    where
      go : Dec (j < n) → entry_at m' chain_at j ≡ last_of (hash_at m') (hash_at m' j) j
      go (yes old) =
          new.chain_old j old ∙ index.chain j old ∙ last_old (hash_at m j) j (omega arith)
          ∙ ap (λ (h' : ℕ). last_of (hash_at m') h' j) (sym (hash_old j old))
      go (no last) =
          let same : j ≡ n = omega arith in
          rw same
          (new.chain_new ∙ held ∙ index.bucket h (rw hashed (hash_lt row)) ∙ last_old h n (omega arith)
          ∙ ap (λ (h' : ℕ). last_of (hash_at m') h' n) (sym hash_new))

  pub appends : Appended m m' n row
  appends = record {
    rows = rows_more m' n ∙ ap₂ (λ rows row. rows ++ (row ∷ [])) (rows_same m' m n new.row_old) new.row_new;
    index = record {
      few = omega arith;
      room = rw new.long index.room;
      bucket = bucket-after;
      chain = chain-after;
    };
    only = new.only;
  }
