-- The labels and the rows are bytes, so each line has room.
use native.Mathlib.Numerals.{add-one}
use Rattle.trace_text.proofs.Rows.{writing_start, writing-next, writing-end, line-room}
use Rattle.trace_text.proofs.put_rows.Goals as goal

pub loop-i-init : goal.loop-i-init
loop-i-init c = writing_start _ _ _ _

pub put_line-end-requires : goal.put_line-end-requires
put_line-end-requires c =
    let p = c.requires in
    rw c.read_row-row.ensures
    (line-room _ _ _ _ _ _ _ p.0 p.1 p.2 (λ i. (c.type_inv.labels i).fits) (λ i. (c.type_inv.rows i).fits) c.loop-i.invariant c.loop-i-test.true)

pub loop-i-preserved : goal.loop-i-preserved
loop-i-preserved c =
    let p = c.requires in
    rw (add-one c.loop-i.i)
    (writing-next _ _ _ _ _ _ _ p.0 p.1 p.2 (λ i. (c.type_inv.labels i).fits) (λ i. (c.type_inv.rows i).fits) c.loop-i.invariant c.loop-i-test.true _ _
    (rw c.read_row-row.ensures at c.put_line-end.ensures)
    c.put_line-end.auto.out)

pub shape_of-out : goal.shape_of-out
shape_of-out c = c.loop-i.invariant.size

pub returns : goal.returns
returns c =
    let p = c.requires in
    writing-end _ _ _ _ _ _ _ p.0 p.1 p.2 (λ i. (c.type_inv.labels i).fits) (λ i. (c.type_inv.rows i).fits) c.loop-i.invariant c.loop-i-test.false
