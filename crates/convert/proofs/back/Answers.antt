-- `convert::back` meets its contract: short output first, then the plan's faults, then what the first edition can't say.
-- Assumes nothing.
use Rattle.plan.proofs.View.{read_as}
use Rattle.refusals.proofs.Told.{told_by, told_up, told-refusal}
use Rattle.convert.proofs.Answers.{sends_back, back-short, by_long}
use Rattle.convert.proofs.back.Goals as goal

pub returns-then-out-lt-FIRST_PLAN_ROOM : goal.returns-then-out-lt-FIRST_PLAN_ROOM
returns-then-out-lt-FIRST_PLAN_ROOM c = sends_back _ _ _ _ (λ i. (c.type_inv.plan i).fits) (told-refusal _ _ _ _ (back-short _ _ c.if-out-lt-FIRST_PLAN_ROOM.true))

pub returns-in_err-plan : goal.returns-in_err-plan
returns-in_err-plan c =
    sends_back _ _ _ _ (λ i. (c.type_inv.plan i).fits)
    (told_up _ _ _ c.from_residual.result _ c.from_residual.ensures.1 (by_long _ _ _ c.if-out-lt-FIRST_PLAN_ROOM.false (read_as c.read.ensures c.in_err-plan.was)))

pub returns : goal.returns
returns c =
    sends_back _ _ _ _ (λ i. (c.type_inv.plan i).fits)
    (told_by (by_long _ _ _ c.if-out-lt-FIRST_PLAN_ROOM.false (read_as c.read.ensures c.in_ok-plan.was)) c.back_in.ensures)
