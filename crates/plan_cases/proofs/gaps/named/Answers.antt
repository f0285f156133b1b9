-- `plan_cases::gaps::named` meets its contract: each form of a group by its test.
-- Assumes nothing.
use mathlib.Core.Path.{sym, ap}
use mathlib.Core.Bool.{Bool, cond}
use Rattle.model.specs.Gap.{one_task, task_set}
use Rattle.plan_cases.proofs.gaps.named.Goals as goal

pub returns-then-set : goal.returns-then-set
returns-then-set c = let n = c.args.number in sym (ap (λ (b : Bool). cond b (task_set n) (one_task n)) c.if-set.true)

pub returns : goal.returns
returns c = let n = c.args.number in sym (ap (λ (b : Bool). cond b (task_set n) (one_task n)) c.if-set.false)
