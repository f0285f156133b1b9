-- `plan::tasks::TaskList::locked` meets its contract: the store is of the same task, locked.
-- Assumes nothing.
use mathlib.Core.Path.{refl}
use native.Mathlib.Omega.{arith}
use Rattle.plan.proofs.View.{lock-stored}
use Rattle.plan.proofs.tasks.TaskList.locked.Goals as goal

pub returns-clause-list : goal.returns-clause-list
returns-clause-list c =
    let s = c.args.self in
    lock-stored s.list s.count c.args.i _ c.requires (omega (arith, c.requires, s.room, s.fits)) refl
