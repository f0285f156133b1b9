-- `combine::rewrite` meets its contract: short output first, then the first plan's faults, then the second's.
-- Assumes nothing.
use mathlib.Core.Path.{refl}
use native.Mathlib.Omega.{arith}
use Rattle.plan.specs.View.{plan_of}
use Rattle.plan.proofs.View.{read_as}
use Rattle.policy.proofs.Plans.{states_fit_lem}
use Rattle.refusals.proofs.Told.{told_by, told_up, told-refusal}
use Rattle.combine.proofs.Answers.{combines, short, by_first, by_both}
use Rattle.combine.proofs.rewrite.Goals as goal

pub returns-then-out-lt-PLAN_ROOM : goal.returns-then-out-lt-PLAN_ROOM
returns-then-out-lt-PLAN_ROOM c = combines _ _ _ _ _ (told-refusal _ _ _ _ (short _ _ _ c.if-out-lt-PLAN_ROOM.true))

pub returns-in_err-one : goal.returns-in_err-one
returns-in_err-one c =
    combines _ _ _ _ _
    (told_up _ _ _ c.from_residual.result _ c.from_residual.ensures.1 (by_first _ _ _ _ c.if-out-lt-PLAN_ROOM.false (read_as c.read.ensures c.in_err-one.was)))

pub returns-in_err-two : goal.returns-in_err-two
returns-in_err-two c =
    combines _ _ _ _ _
    (told_up _ _ _ c.from_residual-in_err-two.result _ c.from_residual-in_err-two.ensures.1
    (by_both _ _ _ (plan_of c.in_ok-one.one) _ c.if-out-lt-PLAN_ROOM.false (read_as c.read.ensures c.in_ok-one.was) (read_as c.read-2.ensures c.in_err-two.was)))

pub combine_in-requires : goal.combine_in-requires
combine_in-requires c = (
  states_fit_lem (plan_of c.in_ok-one.one) (record { bytes = _; read = read_as c.read.ensures c.in_ok-one.was }) _ refl,
  states_fit_lem (plan_of c.in_ok-two.two) (record { bytes = _; read = read_as c.read-2.ensures c.in_ok-two.was }) _ refl,
  omega arith,
)

pub returns : goal.returns
returns c =
    combines _ _ _ _ _
    (told_by
    (by_both _ _ _ (plan_of c.in_ok-one.one) _ c.if-out-lt-PLAN_ROOM.false (read_as c.read.ensures c.in_ok-one.was) (read_as c.read-2.ensures c.in_ok-two.was))
    c.combine_in.ensures)
