-- `gap::rewrite_set` meets its contract: short output first, then the plan's faults, then the gap's.
-- Assumes nothing.
use Rattle.plan.proofs.View.{read_as}
use Rattle.refusals.proofs.Told.{told_by, told_up, told-refusal}
use Rattle.gap.proofs.Answers.{short, by_reading}
use Rattle.gap.proofs.rewrite_set.Goals as goal

pub returns-then-out-lt-PLAN_ROOM : goal.returns-then-out-lt-PLAN_ROOM
returns-then-out-lt-PLAN_ROOM c = told-refusal _ _ _ _ (short _ _ _ _ c.if-out-lt-PLAN_ROOM.true)

pub returns-in_err-plan : goal.returns-in_err-plan
returns-in_err-plan c =
    told_up _ _ _ c.from_residual.result _ c.from_residual.ensures.1 (by_reading _ _ _ _ _ c.if-out-lt-PLAN_ROOM.false (read_as c.read.ensures c.in_err-plan.was))

pub returns : goal.returns
returns c = told_by (by_reading _ _ _ _ _ c.if-out-lt-PLAN_ROOM.false (read_as c.read.ensures c.in_ok-plan.was)) c.gap_in.ensures
