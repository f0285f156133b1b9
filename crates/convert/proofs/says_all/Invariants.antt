-- `convert::says_all` meets its contract: the tasks from this one on decide.
-- Assumes nothing.
use lib.ListN.{length}
use Rattle.node.specs.Edition.{edition_of}
use Rattle.convert.proofs.Tasks.{Left}
use Rattle.convert.proofs.says_all.Given as goal

abbrev pub invariant-loop-task : goal.invariant-loop-task
invariant-loop-task l = Left (edition_of l.edition) l.task-items (length l.task-items) l.task-index
