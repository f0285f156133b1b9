-- `gap::gap_in` meets its contract: each test is the definition's.
-- Assumes nothing.
use Prim.Native.Nat.{◌^◌, ◌≤◌}
use native.Mathlib.Omega.{arith}
use lib.Pow.{pow_mono}
use Rattle.model.specs.Limits.{max_tasks}
use Rattle.gap.proofs.Answers.{no_gap, long_gap, no_task_lem, foreign-task, gap_written}
use Rattle.gap.proofs.gap_in.Goals as goal

pub returns-then-slots-lt1 : goal.returns-then-slots-lt1
returns-then-slots-lt1 c = no_gap c.args.plan c.args.set c.args.slots _ c.if-slots-lt1.true

pub returns-then-slots-gt-MAX_GAP : goal.returns-then-slots-gt-MAX_GAP
returns-then-slots-gt-MAX_GAP c = long_gap c.args.plan c.args.set c.args.slots _ c.if-slots-gt-MAX_GAP.true

pub returns-then-set-lt1 : goal.returns-then-set-lt1
returns-then-set-lt1 c = no_task_lem c.args.plan c.args.set c.args.slots _ c.if-set-lt1.true

pub returns-then-labels-set : goal.returns-then-labels-set
returns-then-labels-set c =
    foreign-task c.args.plan c.args.set c.args.slots _ (omega (arith, c.if-set-lt1.false)) (omega (arith, c.labels-labels.ensures, c.if-labels-set.true))

-- a set of a plan's tasks is a byte
pub overflow_cast-set : goal.overflow_cast-set
overflow_cast-set c =
    let few : 2 ^ c.args.plan.tasks.count ≤ 2 ^ max_tasks = pow_mono c.args.plan.tasks.fits in
    omega (arith, c.labels-labels.ensures, c.if-labels-set.false)

pub returns : goal.returns
returns c =
    gap_written c.args.plan c.args.set c.args.slots _ (omega arith) (omega (arith, c.labels-labels.ensures, c.if-labels-set.false)) (omega arith) (omega arith)
    c.with_gap-written.result c.with_gap-written.ensures _ _ c.write.ensures.value c.write.ensures.out_after
