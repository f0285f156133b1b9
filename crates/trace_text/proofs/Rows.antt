-- Laws of the lines of a trace: how long they are, and one line after another.
-- Assumes nothing.
use mathlib.Core.Path.{◌≡◌, refl, sym, ap, ◌∙◌}
use mathlib.Core.List.{List, [], ◌∷◌, ◌++◌}
use Prim.Native.Nat.{ℕ, suc, ◌+◌, ◌*◌, ◌^◌, ◌≤◌, ◌<◌}
use native.Mathlib.Nat.{add-zero}
use native.Mathlib.Omega.{arith}
use lib.ListN.{length, get_or, take, drop, length-append, length-drop, drop_of_length-le}
use lib.Seq.{drop-cons, drop-drop, get_or-drop}
use Rattle.model.specs.Bytes.{number, part, overwrite, Put}
use Rattle.model.specs.Limits.{max_labels}
use Rattle.model.specs.Text.{field, number_line, trace_line}
use Rattle.model.specs.Trace.{Row, row_size}
use Rattle.words.proofs.Fields.{field_lt}
use Rattle.words.proofs.Memory.{overwrite-none, overwrite_join}
use Rattle.words.proofs.Numbers.{AreBytes}
use Rattle.words.proofs.Words.{drop-bytes}
use Rattle.text.proofs.Decimal.{decimal-length, field-length, number-line-length, three_length}
use Rattle.trace_text.specs.Rows.{line_room, row_in, row_lines}

-- a row at its place
row_at : (rows : List ℕ) (at : ℕ) → row_in (drop at rows) 0 ≡ row_in rows at
row_at rows at = λ i. record { ran = (byte 0 ∙ ap (λ (n : ℕ). get_or rows n 0) (add-zero at)) i; gain = ap (λ (l : List ℕ). number (take 2 l)) (drop-drop 1 at rows) i; cut = byte 3 i }
  where
    byte : (k : ℕ) → get_or (drop at rows) k 0 ≡ get_or rows (at + k) 0
    byte k = get_or-drop at rows k 0

-- the line of a slot has four fields, and a number that ends it
pub line-length : (t l : ℕ) (r : Row) →
    length (trace_line t l r) ≡ length (field t ++ field l ++ field r.ran) + length (field r.gain) + length (number_line r.cut)
unfolding trace_line
line-length t l r =
    omega (
      arith,
      length-append (field t ++ field l ++ field r.ran ++ field r.gain) (number_line r.cut),
      length-append (field t ++ field l ++ field r.ran) (field r.gain),
    )

-- a line of small numbers fits
line-fits : (t l : ℕ) (r : Row) → t < 10 ^ 4 → l < 10 ^ 3 → r.ran < 10 ^ 3 → r.gain < 10 ^ 5 → r.cut < 10 ^ 3 → length (trace_line t l r) ≤ line_room
line-fits t l r ht hl hr hg hc =
    omega (
      arith,
      line-length t l r,
      three_length t l r.ran,
      field-length t,
      field-length l,
      field-length r.ran,
      field-length r.gain,
      number-line-length r.cut,
      decimal-length 3 t ht,
      decimal-length 2 l hl,
      decimal-length 2 r.ran hr,
      decimal-length 4 r.gain hg,
      decimal-length 2 r.cut hc,
    )

-- the line of a row of bytes fits
row_fits : (t l : ℕ) (rows : List ℕ) (at : ℕ) → t < 10 ^ 4 → l < 10 ^ 3 → AreBytes rows → at + row_size ≤ length rows → length (trace_line t l (row_in rows at)) ≤ line_room
row_fits t l rows at ht hl b h =
    let low : number (part rows (at + 1) 2) < 256 ^ 2 = field_lt rows (at + 1) 2 b (omega arith) in
    line-fits t l (row_in rows at) ht hl (omega (arith, b at)) (omega arith) (omega (arith, b (at + 3)))

-- the lines fit
pub rows_fit_lem : (t : ℕ) (ls rows : List ℕ) → t + length ls ≤ max_labels → AreBytes ls → AreBytes rows → row_size * length ls ≤ length rows →
    length (row_lines t ls rows) ≤ line_room * length ls
rows_fit_lem t [] rows ht bl br h = omega arith
rows_fit_lem t (l ∷ ls) rows ht bl br h =
    let more : length (row_lines (suc t) ls (drop row_size rows)) ≤ line_room * length ls =
    rows_fit_lem (suc t) ls (drop row_size rows) (omega arith) (λ i. bl (suc i)) (drop-bytes row_size rows br) (omega (arith, length-drop row_size rows)) in
    let here : length (trace_line t l (row_in rows 0)) ≤ line_room = row_fits t l rows 0 (omega arith) (omega (arith, bl 0)) br (omega arith) in
    omega (arith, length-append (trace_line t l (row_in rows 0)) (row_lines (suc t) ls (drop row_size rows)))

-- the lines before a label are written: with those from it on all of them are
pub record Writing (before : List ℕ) (at : ℕ) (labels rows after : List ℕ) (end i : ℕ) : Type 0 where
  pub inside : i ≤ length labels
  pub size : length after ≡ length before
  pub room : end ≤ at + line_room * i
  pub bytes : overwrite after end (row_lines i (drop i labels) (drop (row_size * i) rows)) ≡ overwrite before at (row_lines 0 labels rows)
  pub next : end + length (row_lines i (drop i labels) (drop (row_size * i) rows)) ≡ at + length (row_lines 0 labels rows)

pub writing_start : (before : List ℕ) (at : ℕ) (labels rows : List ℕ) → Writing before at labels rows before at 0
writing_start before at labels rows = record { inside = omega arith; size = refl; room = omega arith; bytes = refl; next = refl }

module _ (before : List ℕ) (at : ℕ) (labels rows after : List ℕ) (end i : ℕ) (few : length labels ≤ max_labels)
    (rows_fit : row_size * length labels ≤ length rows) (fits : at + line_room * length labels ≤ length before) (bl : AreBytes labels) (br : AreBytes rows)
    (h : Writing before at labels rows after end i) where
  module _ (more : i < length labels) where
    abbrev line : List ℕ
    line = trace_line i (get_or labels i 0) (row_in rows (row_size * i))

    abbrev later : List ℕ
    later = row_lines (suc i) (drop (suc i) labels) (drop (row_size * suc i) rows)

    split : row_lines i (drop i labels) (drop (row_size * i) rows) ≡ line ++ later
    split =
        ap (λ (ls : List ℕ). row_lines i ls (drop (row_size * i) rows)) (drop-cons labels i 0 more)
        ∙ (λ j. trace_line i (get_or labels i 0) (row_at rows (row_size * i) j) ++ row_lines (suc i) (drop (suc i) labels) (rest j))
      where
        next : row_size * i + row_size ≡ row_size * suc i
        next = omega arith

        rest : drop row_size (drop (row_size * i) rows) ≡ drop (row_size * suc i) rows
        rest = drop-drop row_size (row_size * i) rows ∙ ap (λ (n : ℕ). drop n rows) next

    line_small : length line ≤ line_room
    line_small = row_fits i (get_or labels i 0) rows (row_size * i) (omega arith) (omega (arith, bl i)) br (omega arith)

    later_small : length later ≤ line_room * length (drop (suc i) labels)
    later_small =
        rows_fit_lem (suc i) (drop (suc i) labels) (drop (row_size * suc i) rows) (omega (arith, length-drop (suc i) labels)) (drop-bytes (suc i) labels bl)
        (drop-bytes (row_size * suc i) rows br) (omega (arith, length-drop (suc i) labels, length-drop (row_size * suc i) rows))

    -- there is room for the next line
    pub line-room : end + length line ≤ length after
    line-room = omega (arith, line_small, h.room, h.size)

    -- one line more
    pub writing-next : (written : List ℕ) (r : ℕ) → Put after written end line r → length written ≡ length after →
        Writing before at labels rows written r (suc i)
    writing-next written r p s = record {
      inside = more;
      size = s ∙ h.size;
      room = omega (arith, p.next, line_small, h.room);
      bytes =
          (λ j. overwrite (p.bytes j) (p.next j) later)
          ∙ overwrite_join after end line later (omega (arith, line_small, later_small, h.room, h.size, length-drop (suc i) labels))
          ∙ ap (overwrite after end) (sym split)
          ∙ h.bytes;
      next = sum;
    }
      where
        whole : end + length (line ++ later) ≡ at + length (row_lines 0 labels rows)
        whole = ap (λ (l : List ℕ). end + length l) (sym split) ∙ h.next

        sum : r + length later ≡ at + length (row_lines 0 labels rows)
        sum = omega (arith, p.next, whole, length-append line later)

  -- all lines
  pub writing-end : length labels ≤ i → Put before after at (row_lines 0 labels rows) end
  writing-end done = record {
    bytes = sym (overwrite-none after end) ∙ ap (λ (ls : List ℕ). overwrite after end (row_lines i ls (drop (row_size * i) rows))) (sym none_left) ∙ h.bytes;
    next = sum;
  }
    where
      none_left : drop i labels ≡ []
      none_left = drop_of_length-le labels done

      sum : end ≡ at + length (row_lines 0 labels rows)
      sum = omega (arith, ap (λ (ls : List ℕ). end + length (row_lines i ls (drop (row_size * i) rows))) none_left, h.next)
