-- What a call that writes bytes promises.
use Rattle.std.specs.Prelude as rust
use Rattle.std.specs.Prelude.{◌≡◌, List, ℕ, Ok, Err}
use Rattle.model.specs.Calls.{Result, refused, written, Writing, result_of, output_after}
use Rattle.refusals.specs.Numbers.{refusal_number}
use Rattle.refusals.specs.declared.Refusal.{Refusal}

-- what a call answers: how many bytes it wrote, or why it wrote none
abbrev pub Answer : Type 0
Answer = rust.Result ℕ Refusal

abbrev pub result_by : Answer → Result
result_by (Err r) = refused (refusal_number r)
result_by (Ok n) = written n

-- the call does what is due: what it tells, and what the output then holds, by the bytes of what is written
pub record Told {A : Type 0} (spell : A → List ℕ) (due : Writing A) (before after : List ℕ) (r : Answer) : Type 0 where
  pub answer : result_by r ≡ result_of spell due
  pub output : after ≡ output_after spell due before
