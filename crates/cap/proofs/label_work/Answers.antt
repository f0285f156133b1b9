-- `cap::label_work` meets its contract: each turn adds the work of one task's new job.
-- Assumes nothing.
use mathlib.Core.Path.{◌≡◌, sym, ap, ◌∙◌}
use native.Mathlib.Omega.{arith}
use Rattle.model.specs.Limits.{max_tasks}
use Rattle.model.specs.Lists.{sum}
use Rattle.plan.specs.View.{list_of}
use Rattle.plan.proofs.View.{tasks-size}
use Rattle.policy.specs.View.{new_work}
use Rattle.cap.proofs.Work.{work_by_task}
use Rattle.cap.proofs.label_work.Goals as goal

pub returns : goal.returns
returns c =
    let tasks = c.args.tasks.now in
    let ts = list_of tasks in
    let end : c.loop-i.i ≡ max_tasks = omega (arith, c.loop-i.auto, c.loop-i-test.false) in
    c.loop-i.invariant.0 ∙ ap (sum (new_work ts c.args.label)) end ∙ sym (work_by_task ts c.args.label 1 max_tasks (omega (arith, tasks-size tasks, tasks.fits)))
