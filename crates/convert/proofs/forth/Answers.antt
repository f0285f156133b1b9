-- `convert::forth` meets its contract: short output first, then the plan's faults in the first edition.
-- Assumes nothing.
use mathlib.Core.Path.{ap}
use mathlib.Core.Logic.{inl}
use Rattle.model.specs.Edition.{Edition}
use Rattle.model.specs.PlanBytes.{plan_bytes}
use Rattle.plan.specs.View.{plan_of}
use Rattle.plan.proofs.View.{read_as}
use Rattle.refusals.proofs.Told.{told_up, told-refusal, told-written}
use Rattle.convert.proofs.Answers.{sends_forth, forth-short, by_first}
use Rattle.convert.proofs.forth.Goals as goal

pub returns-then-out-lt-PLAN_ROOM : goal.returns-then-out-lt-PLAN_ROOM
returns-then-out-lt-PLAN_ROOM c = sends_forth _ _ _ _ (λ i. (c.type_inv.plan i).fits) (told-refusal _ _ _ _ (forth-short _ _ c.if-out-lt-PLAN_ROOM.true))

pub read_in-requires : goal.read_in-requires
read_in-requires c = inl (ap (λ (e : Edition). e.value_width) c.first.ensures)

pub returns-in_err-plan : goal.returns-in_err-plan
returns-in_err-plan c =
    let read = rw c.first.ensures at c.read_in.ensures in
    sends_forth _ _ _ _ (λ i. (c.type_inv.plan i).fits)
    (told_up _ _ _ c.from_residual.result _ c.from_residual.ensures.1 (by_first _ _ _ c.if-out-lt-PLAN_ROOM.false (read_as read c.in_err-plan.was)))

pub returns : goal.returns
returns c =
    let read = rw c.first.ensures at c.read_in.ensures in
    sends_forth _ _ _ _ (λ i. (c.type_inv.plan i).fits)
    (told-written plan_bytes _ (plan_of c.in_ok-plan.plan) _ _ _ (by_first _ _ _ c.if-out-lt-PLAN_ROOM.false (read_as read c.in_ok-plan.was)) c.write.ensures.value c.write.ensures.out_after)
