-- Laws of writes into the store's memory. Assumes nothing.
use mathlib.Core.Path.{◌≡◌, refl, sym, ap, ◌∙◌}
use mathlib.Core.List.{List, ◌++◌, append_assoc}
use Prim.Native.Nat.{ℕ, zero, suc, ◌+◌, ◌*◌, ◌≤◌, ◌<◌}
use native.Mathlib.Nat.{zero-mul, zero-add, add_assoc}
use native.Mathlib.Omega.{arith}
use lib.ListN.{length, take, drop, replicate, length-replicate, get_or-replicate}
use lib.Seq.{get_or-take, get_or-drop, ext_get_or, drop-drop}
use borrow.Rule.Slice.PartMut.{put_mid}
use Rattle.model.specs.Bytes.{number, part, overwrite}
use Rattle.words.proofs.Free.{overwrite-only}
use Rattle.words.proofs.Memory.{overwrite-length, overwrite-inside, part_length}
use Rattle.words.proofs.Numbers.{number-cons}
use Rattle.store.specs.Store.{buckets_at, store_bytes, hashes, last_of, Cleared}

-- a part of a list that is written whole
pub overwrite-part_whole : (at k : ℕ) (xs ys : List ℕ) → length ys ≡ k → put_mid at k xs ys ≡ overwrite xs at ys
unfolding overwrite
overwrite-part_whole at k xs ys e =
    ap (λ (l : List ℕ). take at xs ++ (ys ++ l)) (drop-drop k at xs ∙ ap (λ (m : ℕ). drop (at + m) xs) (sym e))
    ∙ sym (append_assoc (take at xs) ys (drop (at + length ys) xs))

number-zeros : (k : ℕ) → number (replicate k 0) ≡ 0
unfolding number
number-zeros zero = refl
number-zeros (suc k) = number-cons 0 (replicate k 0) ∙ rw (zero-mul, zero-add) (number-zeros k)

-- a number read where zeros were written
pub zero-entry : (m : List ℕ) (at n i k : ℕ) → at + n ≤ length m → i + k ≤ n → number (part (overwrite m at (replicate n 0)) (at + i) k) ≡ 0
zero-entry m at n i k fits inside =
    let long = length-replicate {A = ℕ} n 0 in
    let room : at + length (replicate {A = ℕ} n 0) ≤ length m = omega arith in
    let same : length (overwrite m at (replicate n 0)) ≡ length m = overwrite-length m at (replicate n 0) room in
    let size : length (part (overwrite m at (replicate n 0)) (at + i) k) ≡ k = part_length (overwrite m at (replicate n 0)) (at + i) k (omega arith) in
    ap number (ext_get_or 0 (part (overwrite m at (replicate n 0)) (at + i) k) (replicate k 0) (size ∙ sym (length-replicate k 0))
    (λ j below. let h : j < k = omega arith in
    rw (get_or-take, get_or-drop, add_assoc)
    (overwrite-inside m at (replicate n 0) room (i + j) (omega arith) ∙ get_or-replicate n (i + j) 0 0 (omega arith) ∙ sym (get_or-replicate k j 0 0 h))))
    ∙ number-zeros k

-- no rows are indexed by an index of zeros
pub cleared-index : (m m' : List ℕ) → store_bytes ≤ length m → m' ≡ overwrite m buckets_at (replicate (2 * hashes) 0) → Cleared m m'
unfolding last_of
cleared-index m m' room e =
    let zeros = replicate {A = ℕ} (2 * hashes) 0 in
    let long = length-replicate {A = ℕ} (2 * hashes) 0 in
    record {
      index = record {
        few = omega arith;
        room = rw e (rw (overwrite-length m buckets_at zeros (omega arith)) room);
        bucket = λ h below. rw e (zero-entry m buckets_at (2 * hashes) (2 * h) 2 (omega arith) (omega arith));
        chain = λ j below. absurd (omega arith);
      };
      only = rw e (overwrite-only m buckets_at zeros (omega arith) 0 store_bytes (omega arith) (omega arith));
    }
