-- Memory of which only some bytes are free: writes within them, one change after another, and what the other bytes say. Assumes nothing.
use mathlib.Core.Path.{◌≡◌, refl, ◌∙◌, sym}
use mathlib.Core.Logic.{◌⊎◌, ⊎_map}
use mathlib.Core.List.{List}
use Prim.Native.Nat.{ℕ, ◌+◌, ◌≤◌, ◌<◌}
use native.Mathlib.Omega.{arith}
use lib.ListN.{length}
use lib.Seq.{ext_get_or, get_or-take, get_or-drop}
use Rattle.model.specs.Bytes.{part, overwrite, Only}
use Rattle.words.proofs.Memory.{part_ext, part_length, overwrite-length, overwrite-inside, overwrite_outside}

pub only_refl : {at k : ℕ} {m : List ℕ} → Only at k m m
only_refl = record { long = refl; others = λ i apart. refl }

module _ {at k : ℕ} {m m' : List ℕ} (o : Only at k m m') where
  pub only_trans : {m'' : List ℕ} → Only at k m' m'' → Only at k m m''
  only_trans p = record { long = p.long ∙ o.long; others = λ i apart. p.others i apart ∙ o.others i apart }

  -- within more bytes
  pub only_wider : (at' k' : ℕ) → at' ≤ at → at + k ≤ at' + k' → Only at' k' m m'
  only_wider at' k' low high = record { long = o.long; others = λ i apart. o.others i (⊎_map (λ h. omega arith) (λ h. omega arith) apart) }

  -- a part of the other bytes
  pub only_part : (at' k' : ℕ) → (at' + k' ≤ at) ⊎ (at + k ≤ at') → part m' at' k' ≡ part m at' k'
  only_part at' k' apart = part_ext m' m at' k' o.long (λ i below. o.others (at' + i) (⊎_map (λ h. omega arith) (λ h. omega arith) apart))

module _ (m : List ℕ) (at : ℕ) (bs : List ℕ) (fits : at + length bs ≤ length m) where
  -- a write within k bytes changes no other
  pub overwrite-only : (at' k : ℕ) → at' ≤ at → at + length bs ≤ at' + k → Only at' k m (overwrite m at bs)
  overwrite-only at' k low high = record {
    long = overwrite-length m at bs fits;
    others = λ i apart. overwrite_outside m at bs fits i (⊎_map (λ h. omega arith) (λ h. omega arith) apart);
  }

  -- a part of what was written
  pub overwrite-within : (i k : ℕ) → i + k ≤ length bs → part (overwrite m at bs) (at + i) k ≡ part bs i k
  overwrite-within i k inside =
      let long = overwrite-length m at bs fits in
      let left = part_length (overwrite m at bs) (at + i) k (omega arith) in
      let right = part_length bs i k inside in
      ext_get_or 0 (part (overwrite m at bs) (at + i) k) (part bs i k) (left ∙ sym right)
      (λ j below. let h : j < k = omega arith in
      let e : at + i + j ≡ at + (i + j) = omega arith in
      rw (get_or-take, get_or-take, get_or-drop, get_or-drop, e) (overwrite-inside m at bs fits (i + j) (omega arith)))
