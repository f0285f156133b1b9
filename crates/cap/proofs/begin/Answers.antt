-- `cap::begin` meets its contract: the plan's fault, 18, or the cap with a window of no labels.
-- Assumes nothing.
use mathlib.Core.Path.{sym, ◌∙◌}
use Rattle.std.proofs.lemmas.Result.{err_from_is_err_and}
use Rattle.plan.specs.View.{plan_of}
use Rattle.cap.proofs.Answers.{begun-faulty, begun_unranged, begun_kept}
use Rattle.cap.proofs.begin.Goals as goal

pub returns-in_err-found : goal.returns-in_err-found
returns-in_err-found c =
    let a = c.args in
    let p = err_from_is_err_and c.from_residual.result c.from_residual.ensures.1 in
    rw (p.1, p.2) (begun-faulty a.plan.now a.slots a.work _ (sym c.in_err-found.ensures))

pub returns-then-not-in_range : goal.returns-then-not-in_range
returns-then-not-in_range c =
    let a = c.args in
    begun_unranged a.plan.now a.slots a.work (plan_of c.in_ok-found.found) (sym c.in_ok-found.ensures) (sym c.in_range.ensures ∙ c.if-not-in_range.true)

pub returns : goal.returns
returns c =
    let a = c.args in
    begun_kept a.plan.now a.slots a.work (plan_of c.in_ok-found.found) (sym c.in_ok-found.ensures) c.of-cap.result c.of-cap.ensures
    c.none-window.result c.none-window.ensures
