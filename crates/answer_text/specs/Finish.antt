-- A call's answer as text: what stands in the output once it is finished, and the line of what the call tells.
use Rattle.std.specs.Prelude.{◌≡◌, List, ℕ, ◌≤◌, length, Ok, Err}
use Rattle.model.specs.Bytes.{Put}
use Rattle.model.specs.Calls.{Result, refused, written}
use Rattle.model.specs.Text.{number_line, refused_line}
use Rattle.refusals.specs.Numbers.{refusal_number}
use Rattle.refusals.specs.Told.{Answer}

-- the most bytes of a refusal's line
abbrev pub refusal_room : ℕ
refusal_room = 29

-- the line of a refusal is written, and what is written already stays
abbrev pub Finishes : Answer → List ℕ → List ℕ → ℕ → Type 0
Finishes (Err r) before after n = Put before after 0 (refused_line (refusal_number r)) n
Finishes (Ok k) before after n = (after ≡ before) × (n ≡ k)

-- there is room for a refusal's line, and what was written stands in the output
pub record Printable (r : Answer) (out : List ℕ) : Type 0 where
  pub room : refusal_room ≤ length out
  pub inside : (n : ℕ) → r ≡ Ok n → n ≤ length out

-- the number of bytes written, or the line of the refusal
abbrev pub result_line : Result → List ℕ
result_line (refused n) = refused_line n
result_line (written n) = number_line n
