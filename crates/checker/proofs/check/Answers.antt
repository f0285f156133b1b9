-- `checker::check` meets its contract: short memory first, and the memory cleared last. Assumes nothing.
use mathlib.Core.Path.{refl, ap, ◌∙◌}
use Prim.Native.Nat.{ℕ}
use lib.ListN.{replicate}
use Rattle.checker.proofs.Answers.{short, enough}
use Rattle.checker.proofs.check.Goals as goal

pub returns-then-work-lt-WORK_ROOM : goal.returns-then-work-lt-WORK_ROOM
returns-then-work-lt-WORK_ROOM c =
    let a = c.args in
    short a.plan.now a.certificate.now a.work.now _ c.if-work-lt-WORK_ROOM.true refl

pub returns : goal.returns
returns c =
    let a = c.args in
    enough a.plan.now a.certificate.now a.work.now _ _ c.if-work-lt-WORK_ROOM.false c.check_bytes-answer.ensures.result_value
    (c.fill.ensures.after (λ y e. e) ∙ ap (λ (n : ℕ). replicate n 0) c.check_bytes-answer.auto.m)
