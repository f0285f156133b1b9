-- A turn's calls make one write and its line.
use Rattle.std.proofs.Common.{arith}
use borrow.Author.Rules.{elem_Fits}
use mir.Syntax.{w8}
use Rattle.block_text.proofs.Writing.{writing_start, writing-next, writing-end, line-room}
use Rattle.block_text.proofs.put_lines.Goals as goal

pub loop-i-init : goal.loop-i-init
loop-i-init c = writing_start _ _ _ _ _ c.requires.0

pub step-told-requires : goal.step-told-requires
step-told-requires c = c.loop-i.invariant.reached.ready

pub put_line-end-requires : goal.put_line-end-requires
put_line-end-requires c =
    line-room _ _ _ _ _ _ _ _ _ c.requires.1 c.loop-i.invariant _ _ _ _
    (record {
      inside = omega (arith, c.loop-i-test.true);
      read = c.from-byte.ensures;
      block = c.step-told.ensures.block;
      told = omega (arith, c.number_of-refusal.ensures, c.step-told.ensures.refusal);
      shown = c.registers-bytes.ensures;
      sixteen = c.registers-bytes.type_inv.1.0.1;
      low = λ i. (elem_Fits w8 w8 c.registers-bytes.result _ i c.registers-bytes.type_inv.1.1 tt).fits;
    })

pub loop-i-preserved : goal.loop-i-preserved
loop-i-preserved c =
    writing-next _ _ _ _ _ _ _ _ _ c.requires.1 c.loop-i.invariant _ _ _ _
    (record {
      inside = omega (arith, c.loop-i-test.true);
      read = c.from-byte.ensures;
      block = c.step-told.ensures.block;
      told = omega (arith, c.number_of-refusal.ensures, c.step-told.ensures.refusal);
      shown = c.registers-bytes.ensures;
      sixteen = c.registers-bytes.type_inv.1.0.1;
      low = λ i. (elem_Fits w8 w8 c.registers-bytes.result _ i c.registers-bytes.type_inv.1.1 tt).fits;
    })
    _ _ c.put_line-end.ensures c.put_line-end.auto.out _ (omega arith)

pub shape_of-out : goal.shape_of-out
shape_of-out c = c.loop-i.invariant.size

pub returns : goal.returns
returns c = writing-end _ _ _ _ _ _ _ _ _ c.requires.1 c.loop-i.invariant (omega (arith, c.loop-i-test.false))
