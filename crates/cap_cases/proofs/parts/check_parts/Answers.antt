-- `cap_cases::parts::check_parts` meets its contract: the labels time after time, and then the others.
-- Assumes nothing.
use mathlib.Core.List.{[], ◌++◌}
use Prim.Native.Nat.{◌+◌, ◌*◌}
use native.Mathlib.Omega.{arith}
use lib.ListN.{length}
use Rattle.std.proofs.lemmas.Result.{err_from_is_err_and}
use Rattle.cap.proofs.Answers.{feeds_parts, watching_from, watching_more, checked, checked-refused}
use Rattle.cap_cases.specs.Kinds.{repeated}
use Rattle.cap_cases.proofs.Times.{repeated-length, times_fit}
use Rattle.cap_cases.proofs.parts.check_parts.Goals as goal

pub returns-in_err-begun : goal.returns-in_err-begun
returns-in_err-begun c =
    let a = c.args in
    let p = err_from_is_err_and c.from_residual.result c.from_residual.ensures.1 in
    rw (p.1, p.2) (checked-refused a.plan.now (repeated a.times a.labels.now ++ a.others.now) a.slots a.work _ c.in_err-begun.ensures)

pub feed_times-middle-requires : goal.feed_times-middle-requires
feed_times-middle-requires c =
    let a = c.args in
    watching_from _ _ _ _ _ (a.times * length a.labels.now) (omega (arith, times_fit a.times (length a.labels.now) 0 (omega (arith, c.well_formed)) c.requires.0 (omega arith))) c.in_ok-begun.ensures

pub feed-end-requires : goal.feed-end-requires
feed-end-requires c =
    let a = c.args in
    let n = a.times * length a.labels.now + length a.others.now in
    let fits = times_fit a.times (length a.labels.now) (length a.others.now) (omega (arith, c.well_formed)) c.requires.0 c.requires.1 in
    watching_more _ _ _ (repeated a.times a.labels.now) n (length a.others.now) (omega (arith, repeated-length a.times a.labels.now)) c.feed_times-middle.ensures
    (watching_from _ _ _ _ _ n fits c.in_ok-begun.ensures)

pub returns : goal.returns
returns c =
    let a = c.args in
    let labels = repeated a.times a.labels.now in
    checked _ _ _ _ _ _
    (feeds_parts _ _ _ _ labels a.others.now c.feed_times-middle.ensures c.feed-end.ensures a.plan.now a.slots a.work [] c.in_ok-begun.ensures)
