-- `policy::runnable` meets its contract: the cells that are held, or else all.
-- Assumes nothing.
use Rattle.std.proofs.Common.{sym, ap, ◌∙◌, cond}
use Rattle.policy.specs.View.{held_cells, has_job, runnable_cells}
use Rattle.policy.proofs.runnable.Goals as goal

pub returns-then-has_job : goal.returns-then-has_job
unfolding runnable_cells
returns-then-has_job c =
    let cells = c.args.cells.now in
    let held = c.held_cells-held.ensures in
    held ∙ sym (ap (λ b. cond b (held_cells cells c.args.hold.now) cells) (sym (c.has_job.ensures ∙ ap has_job held) ∙ c.if-has_job.true))

pub returns-else-has_job : goal.returns-else-has_job
unfolding runnable_cells
returns-else-has_job c =
    let cells = c.args.cells.now in
    sym (ap (λ b. cond b (held_cells cells c.args.hold.now) cells) (sym (c.has_job.ensures ∙ ap has_job c.held_cells-held.ensures) ∙ c.if-has_job.false))
