-- What the program's arguments ask for, and what it then writes.
use Rattle.std.specs.Prelude as rust
use Rattle.std.specs.Prelude.{Ok, Err, Some, None}
use Rattle.std.specs.Option.{option_zip}
use Rattle.std.specs.Prelude.{◌≡◌, Bool, false, List, [], ◌∷◌, ℕ, eqb, length}
use Rattle.model.specs.Text.{cap_text}
use Rattle.arguments.specs.Decimal.{decimal_in, number_of}
use Rattle.cap.specs.View.{Answer, answer_of, Checks}

-- how many labels are read at a time, and the most parts
abbrev pub part_bytes : ℕ
part_bytes = 65536

abbrev pub most_parts : ℕ
most_parts = 281474976710655

-- the log is read on after a part of so many labels: it was full, and no answer is told
abbrev pub goes_on : Answer → ℕ → Bool
goes_on (Ok None) count = eqb count part_bytes
goes_on (Ok (Some t)) count = false
goes_on (Err r) count = false

-- the slots and the work of a cap, by the arguments behind the program's name
abbrev pub command_is : List (List ℕ) → rust.Option (ℕ × ℕ)
command_is [] = None
command_is (k ∷ []) = None
command_is (k ∷ w ∷ []) = option_zip (number_of (decimal_in k)) (number_of (decimal_in w))
command_is (k ∷ w ∷ more ∷ rest) = None

-- so many bytes are written, the line of the answer for the plan and the log that it reads; for arguments that are none nothing is
abbrev pub Runs : rust.Option (ℕ × ℕ) → ℕ → Type 0
Runs (Some p) n = (plan labels : List ℕ) × (answer : Answer) × Checks plan labels p.0 p.1 answer × (n ≡ length (cap_text (answer_of answer)))
Runs None n = n ≡ 0
