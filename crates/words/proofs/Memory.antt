-- Laws of a write into memory: what stands where it was written, and that everything else stands as it did. Assumes nothing.
use mathlib.Core.Path.{◌≡◌, refl, sym, ◌∙◌, ap}
use mathlib.Core.Logic.{◌⊎◌, ⊎_elim, ⊎_map}
use mathlib.Core.List.{List, [], ◌∷◌, ◌++◌, map, append_assoc, append-nil}
use Prim.Native.Nat.{ℕ, zero, suc, ◌+◌, ◌-◌, ◌≤◌, ◌<◌}
use native.Mathlib.Omega.{arith}
use lib.ListN.{length, get_or, set, take, drop, replicate, length-append, length-replicate, length-take, length-drop, take-append-drop, drop_of_length-le, get_or-append}
use lib.Seq.{length-take-le, take_at, drop_at, take-append_seam, drop-append-add, drop-cons, drop-drop, get_or-append-add, get_or-take, get_or-drop, set_split, take-suc, append_snoc, ext_get_or}
use native.Mathlib.Nat.{add-zero, add_assoc}
use native.Mathlib.Numerals.{add-one}
use Rattle.model.specs.Bytes.{part, overwrite, cleared}
use Rattle.model.specs.Lists.{up_from}

-- two lists of one length that agree in a place have the same part there
pub part_ext : (l r : List ℕ) (at k : ℕ) → length l ≡ length r
    → ((i : ℕ) → i < k → get_or l (at + i) 0 ≡ get_or r (at + i) 0) → part l at k ≡ part r at k
part_ext l r at k same agree =
    ext_get_or 0 (part l at k) (part r at k) (simp (length-take, length-drop, same))
    (λ i below. let h : i < k = omega (arith, length-take k (drop at l)) in rw (get_or-take, get_or-take, get_or-drop, get_or-drop) (agree i h))

-- nothing written is no change
pub overwrite-none : (m : List ℕ) (at : ℕ) → overwrite m at [] ≡ m
unfolding overwrite
overwrite-none m at = rw (add-zero, append-nil) (take-append-drop at m)

-- a store writes one byte
pub overwrite-one : (m : List ℕ) (at b : ℕ) → at < length m → set m at b ≡ overwrite m at (b ∷ [])
unfolding overwrite
overwrite-one m at b h = set_split m at b h ∙ sym (rw (add-one) (append_snoc (take at m) b (drop (suc at) m)))

-- writing everything
pub overwrite-all : (m bs : List ℕ) → length bs ≡ length m → overwrite m 0 bs ≡ bs
unfolding overwrite
overwrite-all m bs same = let h : length m ≤ 0 + length bs = omega arith in rw (drop_of_length-le m h) (append-nil bs)

-- zeros as many as there are bytes
-- what is written in front stands in front
pub overwrite-first : (m bs : List ℕ) → take (length bs) (overwrite m 0 bs) ≡ bs
unfolding overwrite
overwrite-first m bs = take-append_seam bs (drop (0 + length bs) m)

pub overwrite-zeros : (m : List ℕ) → overwrite m 0 (replicate (length m) 0) ≡ cleared m
overwrite-zeros m = overwrite-all m (replicate (length m) 0) (length-replicate (length m) 0)

module _ (m : List ℕ) (at : ℕ) (bs : List ℕ) (fits : at + length bs ≤ length m) where
  head-length : length (take at m) ≡ at
  head-length = length-take-le at m (omega arith)

  front_length : length (take at m ++ bs) ≡ at + length bs
  front_length = rw (length-append, head-length)

  pub overwrite-length : length (overwrite m at bs) ≡ length m
  unfolding overwrite
  overwrite-length = simp (length-append, length-take, length-drop) (omega arith)

  -- what was written is read back
  pub overwrite-part : part (overwrite m at bs) at (length bs) ≡ bs
  unfolding overwrite
  overwrite-part = rw (append_assoc, drop_at (take at m) (bs ++ drop (at + length bs) m) at head-length) (take-append_seam bs _)

  -- and so is each byte of it
  pub overwrite-inside : (i : ℕ) → i < length bs → get_or (overwrite m at bs) (at + i) 0 ≡ get_or bs i 0
  unfolding overwrite
  overwrite-inside i h =
      rw (append_assoc, rw head-length at (get_or-append-add (take at m) (bs ++ drop (at + length bs) m) i 0)) (get_or-append bs _ 0 i h)

  before : (i : ℕ) → i < at → get_or (overwrite m at bs) i 0 ≡ get_or m i 0
  unfolding overwrite
  before i h = rw (append_assoc, get_or-append (take at m) (bs ++ drop (at + length bs) m) 0 i (rw head-length h)) (get_or-take at m i 0 h)

  behind : (j : ℕ) → get_or (overwrite m at bs) (at + length bs + j) 0 ≡ get_or m (at + length bs + j) 0
  unfolding overwrite
  behind j = rw front_length at (get_or-append-add (take at m ++ bs) (drop (at + length bs) m) j 0) ∙ get_or-drop (at + length bs) m j 0

  -- a byte that was not written is as it was
  pub overwrite_outside : (i : ℕ) → (i < at) ⊎ (at + length bs ≤ i) → get_or (overwrite m at bs) i 0 ≡ get_or m i 0
  overwrite_outside i = ⊎_elim (before i) (λ h. let e : at + length bs + (i - (at + length bs)) ≡ i = omega arith in rw e at (behind (i - (at + length bs))))

  -- the frame: a part that does not meet what was written is as it was
  pub overwrite_frame : (at' k : ℕ) → (at' + k ≤ at) ⊎ (at + length bs ≤ at') → part (overwrite m at bs) at' k ≡ part m at' k
  overwrite_frame at' k apart =
      part_ext (overwrite m at bs) m at' k overwrite-length
      (λ i below. overwrite_outside (at' + i) (⊎_map (λ h. omega arith) (λ h. omega arith) apart))

-- writes that follow each other are one
pub overwrite_join : (m : List ℕ) (at : ℕ) (xs ys : List ℕ) → at + length xs + length ys ≤ length m
    → overwrite (overwrite m at xs) (at + length xs) ys ≡ overwrite m at (xs ++ ys)
unfolding overwrite
overwrite_join m at xs ys fits =
    let front : length (take at m ++ xs) ≡ at + length xs = front_length m at xs (omega arith) in
    let rest : drop (at + length xs + length ys) (take at m ++ xs ++ drop (at + length xs) m) ≡ drop (at + length xs + length ys) m
    = rw front at (drop-append-add (take at m ++ xs) (drop (at + length xs) m) (length ys)) ∙ drop-drop (length ys) (at + length xs) m in
    rw (take_at (take at m ++ xs) (drop (at + length xs) m) (at + length xs) front, rest, length-append xs ys, ← add_assoc, append_assoc (take at m) xs ys)

-- a store, and bytes written after it
pub overwrite-cons : (m : List ℕ) (at b : ℕ) (bs : List ℕ) → at + 1 + length bs ≤ length m
    → overwrite (set m at b) (at + 1) bs ≡ overwrite m at (b ∷ bs)
overwrite-cons m at b bs fits = rw (overwrite-one m at b (omega arith)) (overwrite_join m at (b ∷ []) bs fits)

-- a store next to the n bytes that were written
pub overwrite-more : (m : List ℕ) (at : ℕ) (xs : List ℕ) (n b : ℕ) → length xs ≡ n → at + n < length m
    → set (overwrite m at xs) (at + n) b ≡ overwrite m at (xs ++ (b ∷ []))
overwrite-more m at xs n b size fits =
    let h : at + length xs < length (overwrite m at xs) = rw (overwrite-length m at xs (omega arith)) (omega arith) in
    rw (← size) (overwrite-one (overwrite m at xs) (at + length xs) b h ∙ overwrite_join m at xs (b ∷ []) (omega arith))

pub part_length : (m : List ℕ) (at k : ℕ) → at + k ≤ length m → length (part m at k) ≡ k
part_length m at k fits = simp (length-take, length-drop) (omega arith)

-- its bytes, one by one
pub part-map : (m : List ℕ) (at k : ℕ) → at + k ≤ length m → map (λ i. get_or m i 0) (up_from at k) ≡ part m at k
part-map m at zero fits = refl
part-map m at (suc k) fits =
    ap (λ (l : List ℕ). get_or m at 0 ∷ l) (part-map m (suc at) k (omega arith)) ∙ sym (ap (take (suc k)) (drop-cons m at 0 (omega arith)))

-- one byte more
pub part-more : (m : List ℕ) (at k : ℕ) → at + k < length m → part m at (k + 1) ≡ part m at k ++ (get_or m (at + k) 0 ∷ [])
part-more m at k fits =
    let h : k < length (drop at m) = simp length-drop (omega arith) in
    rw (add-one, take-suc (drop at m) k 0 h, get_or-drop)

-- what stands behind a first piece of n bytes
pub part_skip : (xs ys : List ℕ) (n i k : ℕ) → length xs ≡ n → part (xs ++ ys) (n + i) k ≡ part ys i k
part_skip xs ys n i k e = ap (take k) (ap (λ (j : ℕ). drop (j + i) (xs ++ ys)) (sym e) ∙ drop-append-add xs ys i)

pub get_or_skip : (xs ys : List ℕ) (n i : ℕ) → length xs ≡ n → get_or (xs ++ ys) (n + i) 0 ≡ get_or ys i 0
get_or_skip xs ys n i e = ap (λ (j : ℕ). get_or (xs ++ ys) (j + i) 0) (sym e) ∙ get_or-append-add xs ys i 0
