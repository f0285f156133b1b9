-- What the two calls promise.
use Rattle.std.specs.Prelude.{◌≡◌, List, ◌↔◌, ℕ, ◌≤◌, length, take, Ok}
use Rattle.model.specs.Edition.{Edition, first_edition, long_reads, plan_room_in}
use Rattle.model.specs.Refusals.{not_in_first}
use Rattle.model.specs.Calls.{Writing, refused}
use Rattle.model.specs.Plan.{Plan, sound, read_plan_in}
use Rattle.model.specs.PlanBytes.{plan_bytes_in}
use Rattle.model.specs.Convert.{forth, back, Converted, Unsaid, CarriesOver}
use Rattle.refusals.specs.Told.{Answer, result_by, Told}

-- a call from one edition to another, for all plan bytes and output: the definition's answer; and what is written is the very plan that the
-- bytes given are, and the other call writes those from it again
pub record Converts (from to : Edition) (call taken_back : List ℕ → ℕ → Writing Plan) (plan before after : List ℕ) (r : Answer) : Type 0 where
  pub told : Told (plan_bytes_in to) (call plan (length before)) before after r
  pub kept : (P : Plan) → read_plan_in from plan ≡ sound P → (n : ℕ) → r ≡ Ok n → Converted from to taken_back plan (take n after) P

-- forth: nodes and certificates of the old plan carry over to what is written
pub record SendsForth (plan before after : List ℕ) (r : Answer) : Type 0 where
  pub converts : Converts first_edition long_reads forth back plan before after r
  pub carries : (P : Plan) → read_plan_in first_edition plan ≡ sound P → (n : ℕ) → r ≡ Ok n → CarriesOver P (take n after)

-- back: with enough output, 16 is told exactly for the sound plans that no bytes of the first edition say
pub record SendsBack (plan before after : List ℕ) (r : Answer) : Type 0 where
  pub converts : Converts long_reads first_edition back forth plan before after r
  pub unsaid : (result_by r ≡ refused not_in_first) ↔ ((plan_room_in first_edition ≤ length before) × Unsaid first_edition plan)
