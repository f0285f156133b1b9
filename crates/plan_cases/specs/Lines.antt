-- The line that is written for a plan.
use Rattle.std.specs.Prelude.{List, [], ◌∷◌, ℕ}
use Rattle.model.specs.Plan.{PlanAnswer, faulty, sound}
use Rattle.model.specs.Text.{refused_line}

-- `sound`, or the line of the refusal
abbrev pub plan_line : PlanAnswer → List ℕ
plan_line (sound P) = 115 ∷ 111 ∷ 117 ∷ 110 ∷ 100 ∷ 10 ∷ []
plan_line (faulty n) = refused_line n
