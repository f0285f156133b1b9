-- What the combine call promises.
use Rattle.std.specs.Prelude.{◌≡◌, List, ℕ, length, take, Ok, Err}
use Rattle.model.specs.Plan.{Plan, sound, read_plan}
use Rattle.model.specs.PlanBytes.{plan_bytes}
use Rattle.model.specs.Combine.{combine, AdmitsBoth, ManyReached}
use Rattle.refusals.specs.declared.Refusal.TheVariants.{TooManyPairs}
use Rattle.refusals.specs.Told.{Answer, Told}

-- for all bytes and output: the definition's answer; what is written is a plan with the first plan's tasks and policy that admits exactly
-- the runs that both admit; and where 15 is given, more than 16 pairs of states are reached, each by a run that both admit
pub record Combines (first second before after : List ℕ) (r : Answer) : Type 0 where
  pub told : Told plan_bytes (combine first second (length before)) before after r
  pub admitted : (P Q : Plan) → read_plan first ≡ sound P → read_plan second ≡ sound Q → (n : ℕ) → r ≡ Ok n → AdmitsBoth P Q (take n after)
  pub many : (P Q : Plan) → read_plan first ≡ sound P → read_plan second ≡ sound Q → r ≡ Err TooManyPairs → ManyReached P Q
