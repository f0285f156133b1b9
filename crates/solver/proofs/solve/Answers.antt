-- `solver::solve` meets its contract: short memory first, and the work memory cleared last. Assumes nothing.
use mathlib.Core.Path.{ap, ◌∙◌}
use Prim.Native.Nat.{ℕ}
use lib.ListN.{replicate}
use Rattle.solver.proofs.Answers.{short-work, short-out, enough}
use Rattle.solver.proofs.solve.Goals as goal

pub returns-then-work-lt-WORK_ROOM : goal.returns-then-work-lt-WORK_ROOM
returns-then-work-lt-WORK_ROOM c = let a = c.args in short-work a.plan.now a.work.now a.out.now c.if-work-lt-WORK_ROOM.true

pub returns-then-out-lt-CERTIFICATE_ROOM : goal.returns-then-out-lt-CERTIFICATE_ROOM
returns-then-out-lt-CERTIFICATE_ROOM c = let a = c.args in short-out a.plan.now a.work.now a.out.now c.if-work-lt-WORK_ROOM.false c.if-out-lt-CERTIFICATE_ROOM.true

pub returns : goal.returns
returns c =
    let call = c.solve_bytes-answer in
    let a = c.args in
    enough a.plan.now a.work.now a.out.now _ _ _ c.if-work-lt-WORK_ROOM.false c.if-out-lt-CERTIFICATE_ROOM.false call.ensures.does
    (c.fill.ensures.after (λ y e. e) ∙ ap (λ (n : ℕ). replicate n 0) call.auto.m)
