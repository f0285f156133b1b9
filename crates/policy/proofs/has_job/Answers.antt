-- `policy::has_job` meets its contract: the loop finds the greatest work.
-- Assumes nothing.
use Rattle.std.proofs.Common.{refl, ap, ltb, ◌∙◌, sym, add-one, ℕ, cond, get_or, ◌≡◌, arith}
use Rattle.policy.specs.View.{greatest, has_job, slot_cells}
use Rattle.policy.proofs.Keys.{greatest-max}
use Rattle.policy.proofs.has_job.Goals as goal

pub loop-work-init : goal.loop-work-init
unfolding greatest
loop-work-init c = refl

pub loop-work-preserved : goal.loop-work-preserved
unfolding greatest
loop-work-preserved c =
    let f = λ (i : ℕ). get_or c.args.cells.now i 0 in
    let k = c.loop-work.work-index in
    c.max-most.ensures ∙ greatest-max c.loop-work.most (f k)
    ∙ ap (λ (w : ℕ). cond (ltb w (f k)) (f k) w) c.loop-work.invariant ∙ ap (greatest f) (sym (add-one k))

pub returns : goal.returns
unfolding has_job
returns c =
    let end : c.loop-work.work-index ≡ slot_cells = omega arith in
    ap (ltb 0) (c.loop-work.invariant ∙ ap (greatest (λ (i : ℕ). get_or c.args.cells.now i 0)) end)
