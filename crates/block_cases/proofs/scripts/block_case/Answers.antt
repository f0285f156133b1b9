-- `block_cases::scripts::block_case` meets its contract: the plan's fault, or the lines of the items with the part that was set up.
-- Assumes nothing.
use Rattle.std.proofs.Common.{◌≡◌, [], sym, ap, ◌∙◌}
use Rattle.model.specs.Controller.{replay_number}
use Rattle.model.specs.Plan.{PlanAnswer}
use Rattle.block_cases.proofs.scripts.block_case.Goals as goal

-- the number of an answer that is known
answered : {a b : PlanAnswer} → a ≡ b → replay_number b [] ≡ replay_number a []
answered e = sym (ap (λ (a : PlanAnswer). replay_number a []) e)

pub returns-in-Err : goal.returns-in-Err
returns-in-Err c = (_, c.number.ensures ∙ answered c.in-Err.ensures)

pub returns-in-Ok : goal.returns-in-Ok
returns-in-Ok c = (_, answered c.in-Ok.ensures.1)
