-- `plan_bytes::write_locks` meets its contract: the locks of the tasks before i are written.
-- Assumes nothing.
use Rattle.model.specs.Bytes.{Put}
use Rattle.model.specs.PlanBytes.{lock_bytes}
use Rattle.plan.specs.View.{tasks_of}
use Rattle.plan_bytes.proofs.write_locks.Given as goal

abbrev pub invariant-loop-i : goal.invariant-loop-i
invariant-loop-i l =
    Put l.initial.out l.out l.at (lock_bytes (tasks_of l.task-items l.i) 1) l.end
