-- Calls that write bytes: what such a call is to do, what it tells, and what it leaves in the output.
use Rattle.std.specs.Prelude.{ℕ, cond, List, ltb, length}
use Rattle.model.specs.Refusals.{short_memory}
use Rattle.model.specs.Bytes.{overwrite}
use Rattle.model.specs.Plan.{Plan, PlanAnswer, faulty, sound}

-- what the call tells: the number of the refusal, or how many bytes it wrote
pub data Result : Type 0 where
  refused : ℕ → Result
  written : ℕ → Result

-- what the call is to do: refuse with this number, or write this
pub data Writing (A : Type 0) : Type 0 where
  refuses : ℕ → Writing A
  writes : A → Writing A

module _ {A : Type 0} where
  -- "Order: 11; the plan's first bad command ..": output shorter than the most that the call can write comes before all others,
  abbrev pub with_room : ℕ → ℕ → Writing A → Writing A
  with_room room lent due = cond (ltb lent room) (refuses short_memory) due

  -- and the plan's own faults before the others
  abbrev pub with_plan : PlanAnswer → (Plan → Writing A) → Writing A
  with_plan (faulty n) due = refuses n
  with_plan (sound P) due = due P

  -- what the call tells, by the bytes of what it writes
  abbrev pub result_of : (A → List ℕ) → Writing A → Result
  result_of spell (refuses n) = refused n
  result_of spell (writes a) = written (length (spell a))

  -- "A refusal gives its number, and the output bytes keep what they had; so do those past the last one written when a call succeeds."
  unfoldable pub output_after : (A → List ℕ) → Writing A → List ℕ → List ℕ
  output_after spell (refuses n) before = before
  output_after spell (writes a) before = overwrite before 0 (spell a)
