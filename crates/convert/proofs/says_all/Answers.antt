-- `convert::says_all` meets its contract: the tasks from this one on decide.
-- Assumes nothing.
use mathlib.Core.Path.{refl, sym, ap, ◌∙◌}
use native.Mathlib.Omega.{arith}
use lib.ListN.{length}
use Rattle.model.specs.Lists.{all}
use Rattle.model.specs.Convert.{says}
use Rattle.node.specs.Edition.{edition_of}
use Rattle.plan_bytes.proofs.Pieces.{shown}
use Rattle.convert.proofs.Tasks.{next-task, no_task-left}
use Rattle.convert.proofs.says_all.Goals as goal

pub loop-task-init : goal.loop-task-init
loop-task-init c = refl

pub returns-then-not-says : goal.returns-then-not-says
returns-then-not-says c =
    let e = edition_of c.args.edition in
    let ts = c.as_slice-task-items.result.now in
    sym (next-task e ts (length ts) (omega arith) c.loop-task.task-index c.loop-task.invariant c.loop-task-test.true (sym c.if-not-says.true ∙ c.says.ensures))
    ∙ ap (all (says e)) (shown ts _ c.as_slice-task-items.ensures)

pub loop-task-preserved : goal.loop-task-preserved
loop-task-preserved c =
    let ts = c.as_slice-task-items.result.now in
    next-task (edition_of c.args.edition) ts (length ts) (omega arith) c.loop-task.task-index c.loop-task.invariant c.loop-task-test.true (sym c.if-not-says.false ∙ c.says.ensures)

pub returns : goal.returns
returns c =
    let e = edition_of c.args.edition in
    let ts = c.as_slice-task-items.result.now in
    no_task-left e ts (length ts) (omega arith) c.loop-task.task-index c.loop-task.invariant c.loop-task-test.false ∙ ap (all (says e)) (shown ts _ c.as_slice-task-items.ensures)
