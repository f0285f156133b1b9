-- `graph::are_zero` meets its contract.
-- Assumes nothing.
use mathlib.Core.Path.{◌∙◌, sym}
use native.Mathlib.Omega.{arith}
use Rattle.model.specs.Limits.{max_tasks}
use Rattle.words.specs.Packed.{unpacked}
use Rattle.words.proofs.Packed.{fields-length}
use Rattle.graph.proofs.Search.{zero-end, zero_no, zero_more}
use Rattle.graph.proofs.are_zero.Goals as goal

pub returns-then-mask_at-ne0 : goal.returns-then-mask_at-ne0
returns-then-mask_at-ne0 c =
    let n = c.args.masks in
    sym
    (c.loop-i.invariant
    ∙ zero_no (unpacked n) c.loop-i.i (omega (arith, fields-length max_tasks n))
    (λ e. c.if-mask_at-ne0.true (c.mask_at.ensures ∙ e)))

pub loop-i-preserved : goal.loop-i-preserved
loop-i-preserved c =
    let n = c.args.masks in
    c.loop-i.invariant
    ∙ zero_more (unpacked n) c.loop-i.i (omega (arith, fields-length max_tasks n))
    (sym c.mask_at.ensures ∙ c.if-mask_at-ne0.false)

pub returns : goal.returns
returns c =
    let n = c.args.masks in
    sym (c.loop-i.invariant ∙ zero-end (unpacked n) c.loop-i.i (omega (arith, fields-length max_tasks n)))
