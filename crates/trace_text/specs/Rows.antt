-- The lines of a trace, by its bytes.
use Rattle.std.specs.Prelude.{List, [], ◌∷◌, ◌++◌, ℕ, suc, ◌+◌, ◌*◌, length, get_or, drop}
use Rattle.model.specs.Bytes.{number, part}
use Rattle.model.specs.Limits.{max_labels}
use Rattle.model.specs.Text.{trace_header, trace_line}
use Rattle.model.specs.Trace.{Row, row_size}

-- the row at a place: the task that ran, the gain in two bytes, the task cut
abbrev pub row_in : List ℕ → ℕ → Row
row_in rows at = record { ran = get_or rows at 0; gain = number (part rows (at + 1) 2); cut = get_or rows (at + 3) 0 }

abbrev pub row_lines : ℕ → List ℕ → List ℕ → List ℕ
row_lines t [] rows = []
row_lines t (l ∷ ls) rows = trace_line t l (row_in rows 0) ++ row_lines (suc t) ls (drop row_size rows)

-- the most that a line takes, and that a text does
abbrev pub line_room : ℕ
line_room = 23

abbrev pub text_room : ℕ
text_room = length trace_header + line_room * max_labels
