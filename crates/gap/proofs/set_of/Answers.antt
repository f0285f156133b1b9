-- `gap::set_of` meets its contract: each form of a group has its set.
-- Assumes nothing.
use mathlib.Core.Path.{sym, ap, ◌∙◌}
use Rattle.gap.specs.Groups.{group_of, set_of}
use Rattle.gap.specs.declared.Group.{Group}
use Rattle.gap.proofs.set_of.Goals as goal

pub returns-in-Task : goal.returns-in-Task
returns-in-Task c = c.task_set.ensures ∙ sym (ap (λ (g : Group). set_of (group_of g)) c.in-Task.is)
