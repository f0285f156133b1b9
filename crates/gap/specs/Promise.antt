-- What the gap calls promise.
use Rattle.std.specs.Prelude.{◌≡◌, List, ℕ, length, take, Ok}
use Rattle.model.specs.Plan.{Plan, sound, read_plan}
use Rattle.model.specs.PlanBytes.{plan_bytes}
use Rattle.model.specs.Gap.{Group, group_gap, HasGap, SameTasks}
use Rattle.refusals.specs.Told.{Answer, Told}

-- for all plan bytes, groups, numbers and output: the definition's answer, which is that of any other name of the same tasks, so that a set
-- of one has the answer of that task; and what is written is a plan with the tasks and policy of the plan given that admits exactly the
-- runs that keep the gap
pub record Rewrites (plan : List ℕ) (group : Group) (slots : ℕ) (before after : List ℕ) (r : Answer) : Type 0 where
  pub told : Told plan_bytes (group_gap plan group slots (length before)) before after r
  pub named : (other : Group) → SameTasks group other → Told plan_bytes (group_gap plan other slots (length before)) before after r
  pub kept : (P : Plan) → read_plan plan ≡ sound P → (n : ℕ) → r ≡ Ok n → HasGap P group slots (take n after)
