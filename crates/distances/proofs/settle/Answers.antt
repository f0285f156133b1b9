-- `distances::settle` meets its contract: passes until nothing moves. Assumes nothing.
use mathlib.Core.Path.{sym, subst}
use Rattle.distances.specs.Distances.{Settles}
use Rattle.distances.proofs.Passes.{Passed, passed_none, passed-sought, passed-more, begin_sought, passed-circuit, passed-end}
use Rattle.distances.proofs.Targets.{passed_up}
use Rattle.distances.proofs.settle.Goals as goal

pub begin-requires : goal.begin-requires
begin-requires c = c.requires.priced.room

pub loop-passes-init : goal.loop-passes-init
loop-passes-init c P s = passed_none s.search

pub pass-requires : goal.pass-requires
pass-requires c =
    let pricing = c.requires in
    let s = begin_sought c.begin.ensures pricing.priced in
    record { plan = pricing.plan; sought = passed-sought (c.loop-passes.invariant pricing.plan s) s }

pub returns-in_err-pass : goal.returns-in_err-pass
returns-in_err-pass c P priced =
    let s = begin_sought c.begin.ensures priced in
    let p = c.loop-passes.invariant P s in
    subst (Settles P c.args.claim c.args.m.now c.pass.new.m) (sym (passed_up c.from_residual.result c.from_residual.ensures.1))
    (passed-circuit c.begin.ensures priced p (c.in_err-pass.ensures P (passed-sought p s)))

pub loop-passes-smaller : goal.loop-passes-smaller
loop-passes-smaller c =
    let pricing = c.requires in
    let s = begin_sought c.begin.ensures pricing.priced in
    let p = c.loop-passes.invariant pricing.plan s in
    (c.in_ok-pass.ensures pricing.plan (passed-sought p s)).advance.progress.less c.if-branch.true

pub loop-passes-preserved : goal.loop-passes-preserved
loop-passes-preserved c P s =
    let p = c.loop-passes.invariant P s in
    subst (Passed P c.args.claim c.begin.new.m c.pass.new.m) (sym c.counted-passes.ensures)
    (passed-more p c.if-branch.true (c.in_ok-pass.ensures P (passed-sought p s)))

pub returns : goal.returns
returns c P priced =
    let s = begin_sought c.begin.ensures priced in
    let p = c.loop-passes.invariant P s in
    passed-end c.begin.ensures priced p c.if-branch.false (c.in_ok-pass.ensures P (passed-sought p s))
