-- `gap::task_set` meets its contract: 1 moved up to the task's bit.
-- Assumes nothing.
use mathlib.Core.Path.{sym, ap, ◌∙◌}
use mathlib.Core.Bool.{Bool, cond}
use Prim.Native.Nat.{ℕ, ◌-◌, ◌^◌}
use native.Mathlib.Omega.{arith}
use Rattle.model.specs.Limits.{max_tasks}
use Rattle.model.proofs.Plan.{between-below, between-above, between-inside}
use Rattle.model.proofs.Runs.{one-moved}
use Rattle.gap.proofs.task_set.Goals as goal

-- the set by the test of the task
abbrev set : ℕ → Bool → ℕ
set i b = cond b (2 ^ (i - 1)) 0

pub returns-then-task-lt1 : goal.returns-then-task-lt1
returns-then-task-lt1 c = let i = c.args.task in sym (ap (set i) (between-below 1 i max_tasks c.if-task-lt1.true))

pub returns-then-task-gt-MAX_TASKS : goal.returns-then-task-gt-MAX_TASKS
returns-then-task-gt-MAX_TASKS c = let i = c.args.task in sym (ap (set i) (between-above 1 i max_tasks c.if-task-gt-MAX_TASKS.true))

pub returns : goal.returns
returns c =
    let i = c.args.task in
    one-moved 64 (i - 1) (omega arith) ∙ sym (ap (set i) (between-inside 1 i max_tasks (omega arith) (omega arith)))
