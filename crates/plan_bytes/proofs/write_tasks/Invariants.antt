-- `plan_bytes::write_tasks` meets its contract: the tasks before this one are written.
-- Assumes nothing.
use Prim.Native.Nat.{◌*◌, ◌≤◌}
use Rattle.model.specs.Lists.{flat_map}
use Rattle.model.specs.PlanBytes.{task_bytes}
use Rattle.plan.specs.View.{tasks_of}
use Rattle.model.specs.Edition.{task_width}
use Rattle.node.specs.Edition.{edition_of}
use Rattle.model.specs.Bytes.{Put}
use Rattle.plan_bytes.proofs.write_tasks.Given as goal

abbrev pub invariant-loop-task : goal.invariant-loop-task
invariant-loop-task l =
    (l.end ≤ task_width (edition_of l.edition) * l.task-index) × Put l.initial.out l.out 0 (flat_map (task_bytes (edition_of l.edition)) (tasks_of l.task-items l.task-index)) l.end
