-- What the code's groups stand for, and the sets by which it goes.
use Rattle.std.specs.Prelude.{cond, ℕ, ◌-◌, ◌^◌}
use Rattle.model.specs.Limits.{max_tasks}
use Rattle.model.specs.Plan.{between}
use Rattle.model.specs.Gap as model
use Rattle.model.specs.Gap.{one_task, task_set}
use Rattle.gap.specs.declared.Group.{Group}
use Rattle.gap.specs.declared.Group.TheVariants.{Task, Set}

abbrev pub group_of : Group → model.Group
group_of (Task i) = one_task i
group_of (Set set) = task_set set

-- the set of a group's tasks; of a number that is no plan's task the empty set
abbrev pub set_of : model.Group → ℕ
set_of (one_task i) = cond (between 1 i max_tasks) (2 ^ (i - 1)) 0
set_of (task_set set) = set
