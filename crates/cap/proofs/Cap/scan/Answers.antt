-- `cap::Cap::scan` meets its contract: the labels before a place tell nothing, and the sum is that of the log with them.
-- Assumes nothing.
use mathlib.Core.Path.{◌≡◌, refl, ap, ◌∙◌}
use native.Mathlib.Omega.{arith}
use lib.ListN.{get_or, length}
use Prim.Native.Nat.{ℕ, ◌+◌}
use Rattle.cap.proofs.Scanned.{scanned_next, scanned_foreign, scanned_over, scanned_end, back_fits, sum_fits}
use Rattle.cap.proofs.Cap.scan.Goals as goal

pub returns-then-self-label : goal.returns-then-self-label
returns-then-self-label c = scanned_foreign _ _ _ _ _ c.loop-i.invariant c.loop-i-test.true (omega (arith, c.from-label.ensures))

pub offset_bounds-self-oldest : goal.offset_bounds-self-oldest
offset_bounds-self-oldest c = omega (arith, c.label_back-oldest.ensures, back_fits _ _ _ _ _ c.loop-i.invariant c.requires)

pub bounds-self-oldest : goal.bounds-self-oldest
bounds-self-oldest c = omega (arith, c.label_back-oldest.ensures, back_fits _ _ _ _ _ c.loop-i.invariant c.requires)

pub moved-next-requires : goal.moved-next-requires
moved-next-requires c = sum_fits _ _ _ _ _ c.loop-i.invariant c.requires _ c.label_back-oldest.ensures

pub returns-then-self-next : goal.returns-then-self-next
returns-then-self-next c =
    let works = c.args.self.now.works in
    scanned_over _ _ _ _ _ c.loop-i.invariant c.loop-i-test.true (omega (arith, c.from-label.ensures)) _ _ c.label_back-oldest.ensures
    (c.moved-next.ensures ∙ ap (λ (l : ℕ). c.loop-i.sum + get_or works l 0) c.from-label.ensures) c.if-self-next.true _ refl

pub loop-i-preserved : goal.loop-i-preserved
loop-i-preserved c =
    let works = c.args.self.now.works in
    scanned_next _ _ _ _ _ c.loop-i.invariant c.loop-i-test.true (omega (arith, c.from-label.ensures)) _ _ c.label_back-oldest.ensures
    (c.moved-next.ensures ∙ ap (λ (l : ℕ). c.loop-i.sum + get_or works l 0) c.from-label.ensures) c.if-self-next.false

pub returns : goal.returns
returns c =
    let a = c.args in
    let all : c.loop-i.i ≡ length a.labels.now = omega (arith, c.loop-i-test.false, c.loop-i.invariant.inside) in
    scanned_end _ _ _ _ _ c.loop-i.invariant c.loop-i-test.false _ (omega arith) _ c.pushed-last.ensures
