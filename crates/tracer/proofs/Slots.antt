-- Laws of the trace's bytes: a row for each label, one label after another.
-- Assumes nothing.
use mathlib.Core.Path.{◌≡◌, refl, sym, ap, ◌∙◌}
use mathlib.Core.List.{List, [], ◌∷◌, ◌++◌, append_assoc}
use mathlib.Core.Option.{Option, none}
use Prim.Native.Nat.{ℕ, zero, suc, ◌+◌, ◌*◌, ◌≤◌, ◌<◌}
use native.Mathlib.Omega.{arith}
use lib.ListN.{length, get_or, drop, length-append, length-drop, drop_of_length-le}
use lib.Seq.{drop-cons}
use Rattle.model.specs.Bytes.{bytes, overwrite}
use Rattle.model.specs.Interrupted.{cut_in}
use Rattle.model.specs.Plan.{Plan}
use Rattle.model.specs.Slot.{Job, JobId, Done, slot}
use Rattle.model.specs.Trace.{Row, row_of, slots, row_bytes, trace_bytes, row_size}
use Rattle.words.proofs.Numbers.{bytes-length}
use Rattle.words.proofs.Memory.{overwrite-none, overwrite_join, overwrite-length, get_or_skip}
use Rattle.theory.proofs.Interrupted.{cut_at}

pub row-length : (r : Row) → length (row_bytes r) ≡ row_size
row-length r = omega (arith, length-append (bytes 2 r.gain) (r.cut ∷ []), bytes-length 2 r.gain)

-- what stands behind it
pub row-bytes : (r : Row) (rest : List ℕ) → row_bytes r ++ rest ≡ r.ran ∷ (bytes 2 r.gain ++ (r.cut ∷ rest))
row-bytes r rest = ap (λ (l : List ℕ). r.ran ∷ l) (append_assoc (bytes 2 r.gain) (r.cut ∷ []) rest)

-- its fourth byte
pub row_cut : (r : Row) (rest : List ℕ) → get_or (row_bytes r ++ rest) 3 0 ≡ r.cut
row_cut r rest =
    ap (λ (l : List ℕ). get_or l 3 0) (row-bytes r rest) ∙ get_or_skip (bytes 2 r.gain) (r.cut ∷ rest) 2 0 (bytes-length 2 r.gain)

-- the fourth byte of each row is its column
pub cut_column : (rs : List Row) (t : ℕ) → t < length rs → cut_in (trace_bytes rs) t ≡ cut_at rs t
unfolding trace_bytes
cut_column [] t h = absurd (omega arith)
cut_column (r ∷ rs) zero h = row_cut r (trace_bytes rs)
cut_column (r ∷ rs) (suc t) h =
    let place : row_size * suc t + 3 ≡ row_size + (row_size * t + 3) = omega arith in
    ap (λ (i : ℕ). get_or (trace_bytes (r ∷ rs)) i 0) place
    ∙ get_or_skip (row_bytes r) (trace_bytes rs) row_size (row_size * t + 3) (row-length r)
    ∙ cut_column rs t (omega arith)

-- a row for each label
pub slots_length : (P : Plan) (ran : Option JobId) (js : List Job) (ls : List ℕ) → length (slots P ran js ls) ≡ length ls
slots_length P ran js [] = refl
slots_length P ran js (l ∷ ls) = ap suc (slots_length P (slot P js l).ran (slot P js l).jobs ls)

-- so many bytes for each row
pub trace-length : (rs : List Row) → length (trace_bytes rs) ≡ row_size * length rs
unfolding trace_bytes
trace-length [] = refl
trace-length (r ∷ rs) = omega (arith, length-append (row_bytes r) (trace_bytes rs), row-length r, trace-length rs)

-- the rows before a label are written: with those from it on the whole trace is
pub record Writing (P : Plan) (labels before now' : List ℕ) (ran : Option JobId) (js : List Job) (i : ℕ) : Type 0 where
  pub inside : i ≤ length labels
  pub size : length now' ≡ length before
  pub rest : overwrite now' (row_size * i) (trace_bytes (slots P ran js (drop i labels))) ≡ overwrite before 0 (trace_bytes (slots P none [] labels))

pub writing_start : (P : Plan) (labels before : List ℕ) → Writing P labels before before none [] 0
writing_start P labels before = record { inside = omega arith; size = refl; rest = refl }

module _ (P : Plan) (labels before now' : List ℕ) (ran : Option JobId) (js : List Job) (i : ℕ) (room : row_size * length labels ≤ length before)
    (h : Writing P labels before now' ran js i) where
  -- one row more
  pub writing-next : i < length labels → (d : Done) → d ≡ slot P js (get_or labels i 0) → (r : Row) → r ≡ row_of P ran js (get_or labels i 0) →
      Writing P labels before (overwrite now' (row_size * i) (row_bytes r)) d.ran d.jobs (suc i)
  unfolding trace_bytes
  writing-next more d e r f = record {
    inside = more;
    size = overwrite-length now' (row_size * i) (row_bytes r) (omega (arith, row-length r, h.size)) ∙ h.size;
    rest =
        ap (λ (k : ℕ). overwrite (overwrite now' (row_size * i) (row_bytes r)) k later) next
        ∙ overwrite_join now' (row_size * i) (row_bytes r) later fits
        ∙ ap (λ (rs : List Row). overwrite now' (row_size * i) (trace_bytes rs)) whole
        ∙ h.rest;
  }
    where
      rows : List Row
      rows = slots P d.ran d.jobs (drop (suc i) labels)

      later : List ℕ
      later = trace_bytes rows

      next : row_size * suc i ≡ row_size * i + length (row_bytes r)
      next = omega (arith, row-length r)

      fits : row_size * i + length (row_bytes r) + length later ≤ length now'
      fits =
          omega (
            arith,
            row-length r,
            h.size,
            trace-length rows,
            slots_length P d.ran d.jobs (drop (suc i) labels),
            length-drop (suc i) labels,
          )

      whole : r ∷ rows ≡ slots P ran js (drop i labels)
      whole = (λ j. f j ∷ slots P (e j).ran (e j).jobs (drop (suc i) labels)) ∙ ap (slots P ran js) (sym (drop-cons labels i 0 more))

  -- the whole trace
  pub writing-end : length labels ≤ i → now' ≡ overwrite before 0 (trace_bytes (slots P none [] labels))
  unfolding trace_bytes
  writing-end done =
      sym (overwrite-none now' (row_size * i))
      ∙ ap (λ (ls : List ℕ). overwrite now' (row_size * i) (trace_bytes (slots P ran js ls))) (sym (drop_of_length-le labels done))
      ∙ h.rest
