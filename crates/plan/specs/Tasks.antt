-- What a task stands for.
use Rattle.std.specs.Prelude.{false}
use Rattle.model.specs.Plan as model
use Rattle.plan.specs.declared.tasks.Task.{Task}

-- what stands past the tasks given
abbrev pub empty_task : Task
empty_task = record { work = 0; window = 0; value = 0; locked = false }

abbrev pub task_view : Task → model.Task
task_view t = record { work = t.work; window = t.window; value = t.value; locked = t.locked }
