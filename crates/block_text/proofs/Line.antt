-- Laws of numbers in one line: one after another, and how long they are.
-- Assumes nothing.
use mathlib.Core.Path.{◌≡◌, sym, ap, ◌∙◌}
use mathlib.Core.List.{List, [], ◌∷◌, ◌++◌}
use Prim.Native.Nat.{ℕ, suc, ◌+◌, ◌*◌, ◌^◌, ◌≤◌, ◌<◌}
use native.Mathlib.Numerals.{add-one}
use native.Mathlib.Omega.{arith}
use lib.ListN.{length, get_or, drop, length-append, drop_of_length-le}
use lib.Seq.{drop-cons}
use Rattle.model.specs.Text.{field, number_line, numbers_line}
use Rattle.words.proofs.Numbers.{AreBytes}
use Rattle.text.proofs.Decimal.{decimal-length, field-length, number-line-length}
use Rattle.block_text.specs.Lines.{line_room}

-- the line from the number at a place on
abbrev pub line_from : List ℕ → ℕ → List ℕ
line_from ns i = numbers_line (get_or ns i 0) (drop (i + 1) ns)

-- a number before it
pub line-next : (n : ℕ) (ns : List ℕ) (i : ℕ) → i < length ns → numbers_line n (drop i ns) ≡ field n ++ line_from ns i
line-next n ns i h = ap (numbers_line n) (drop-cons ns i 0 h) ∙ ap (λ (k : ℕ). field n ++ numbers_line (get_or ns i 0) (drop k ns)) (sym (add-one i))

-- the last number
pub line-last : (ns : List ℕ) (i : ℕ) → length ns ≤ i + 1 → line_from ns i ≡ number_line (get_or ns i 0)
line-last ns i h = ap (numbers_line (get_or ns i 0)) (drop_of_length-le ns h)

-- numbers of three digits
numbers_short : (n : ℕ) (ns : List ℕ) → n < 10 ^ 3 → AreBytes ns → length (numbers_line n ns) ≤ 4 + 4 * length ns
numbers_short n [] h b = omega (arith, number-line-length n, decimal-length 2 n h)
numbers_short n (m ∷ ms) h b =
    omega (
      arith,
      length-append (field n) (numbers_line m ms),
      field-length n,
      decimal-length 2 n h,
      numbers_short m ms (omega (arith, b 0)) (λ i. b (suc i)),
    )

-- a refusal of two digits and sixteen bytes
pub line-short : (n : ℕ) (ns : List ℕ) → n < 10 ^ 2 → AreBytes ns → length ns ≡ 16 → length (numbers_line n ns) ≤ line_room
line-short n [] h b size = absurd (omega arith)
line-short n (m ∷ ms) h b size =
    omega (
      arith,
      length-append (field n) (numbers_line m ms),
      field-length n,
      decimal-length 1 n h,
      numbers_short m ms (omega (arith, b 0)) (λ i. b (suc i)),
    )
