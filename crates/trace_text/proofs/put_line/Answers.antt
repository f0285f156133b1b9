-- Four fields and a number that ends the line, one after the other.
use mathlib.Core.List.{◌++◌}
use native.Mathlib.Omega.{arith}
use lib.ListN.{length-append}
use Rattle.model.specs.Text.{field, trace_line}
use Rattle.tracer.specs.Rows.{row_view}
use Rattle.words.proofs.Put.{put_join}
use Rattle.trace_text.proofs.Rows.{line-length}
use Rattle.trace_text.proofs.put_line.Goals as goal

pub put_three_fields-a-requires : goal.put_three_fields-a-requires
put_three_fields-a-requires c = omega (arith, c.requires, line-length c.args.slot c.args.label (row_view c.args.row))

pub put_field-b-requires : goal.put_field-b-requires
put_field-b-requires c = omega (arith, c.requires, c.put_three_fields-a.ensures.next, line-length c.args.slot c.args.label (row_view c.args.row))

pub put_number_line-requires : goal.put_number_line-requires
put_number_line-requires c =
    omega (arith, c.requires, c.put_three_fields-a.ensures.next, c.put_field-b.ensures.next, line-length c.args.slot c.args.label (row_view c.args.row))

pub returns : goal.returns
unfolding trace_line
returns c =
    let x = c.args in
    let all = line-length x.slot x.label (row_view x.row) in
    let four = put_join _ _ _ _ _ _ _ _ (omega (arith, c.requires, all)) c.put_three_fields-a.ensures c.put_field-b.ensures in
    put_join _ _ _ _ _ _ _ _
    (omega (arith, c.requires, all, length-append (field x.slot ++ field x.label ++ field x.row.ran) (field x.row.gain))) four c.put_number_line.ensures
