-- `combine::explore` meets its contract: the labels below this one have been followed.
-- Assumes nothing.
use Prim.Native.Nat.{◌^◌, ◌≤◌}
use native.Mathlib.Omega.{arith}
use lib.Pow.{pow_mono}
use Rattle.plan.specs.View.{label_count}
use Rattle.combine.proofs.Growing.{part-more, part-many}
use Rattle.combine.proofs.explore.Goals as goal

pub bounds-entries-label : goal.bounds-entries-label
bounds-entries-label c =
    let most : 2 ^ c.args.tasks.now.count ≤ label_count = pow_mono c.args.tasks.now.fits in
    omega (arith, c.labels-label-end.ensures, c.loop-label-test.true, most)

pub returns-in_err-step : goal.returns-in_err-step
returns-in_err-step c =
    rw c.from_residual.ensures
    (part-many _ _ _ _ _ _ c.loop-label.entries c.loop-label.known c.loop-label.label c.loop-label.invariant _ _ c.in_err-step.ensures c.args.tasks.now.count (omega arith))

pub loop-label-preserved : goal.loop-label-preserved
loop-label-preserved c =
    let most : 2 ^ c.args.tasks.now.count ≤ label_count = pow_mono c.args.tasks.now.fits in
    part-more _ _ _ _ _ _ c.loop-label.entries c.loop-label.known c.loop-label.label c.loop-label.invariant _ _ c.in_ok-step.step c.in_ok-step.ensures (omega (arith, most))
