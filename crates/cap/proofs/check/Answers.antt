-- `cap::check` meets its contract: all labels of the log are fed at once.
-- Assumes nothing.
use mathlib.Core.List.{[]}
use Rattle.std.proofs.lemmas.Result.{err_from_is_err_and}
use Rattle.cap.proofs.Answers.{checked, checked-refused}
use Rattle.cap.proofs.check.Goals as goal

pub returns-in_err-begun : goal.returns-in_err-begun
returns-in_err-begun c =
    let a = c.args in
    let p = err_from_is_err_and c.from_residual.result c.from_residual.ensures.1 in
    rw (p.1, p.2) (checked-refused a.plan.now a.labels.now a.slots a.work _ c.in_err-begun.ensures)

pub returns : goal.returns
returns c =
    let a = c.args in
    checked _ _ _ _ _ _ (c.feed-watched.ensures a.plan.now a.slots a.work [] c.in_ok-begun.ensures)
