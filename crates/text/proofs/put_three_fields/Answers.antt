-- `text::put_three_fields` meets its contract: one field after the other. Assumes nothing.
use native.Mathlib.Omega.{arith}
use lib.ListN.{length-append}
use Rattle.model.specs.Text.{field}
use Rattle.text.proofs.Decimal.{three_length}
use Rattle.words.proofs.Put.{put_join}
use Rattle.text.proofs.put_three_fields.Goals as goal

pub put_field-a-requires : goal.put_field-a-requires
put_field-a-requires c =
    omega (arith, c.requires, three_length c.args.x c.args.y c.args.z)

pub put_field-b-requires : goal.put_field-b-requires
put_field-b-requires c =
    omega (arith, c.requires, c.put_field-a.ensures.next, three_length c.args.x c.args.y c.args.z)

pub put_field-requires : goal.put_field-requires
put_field-requires c =
    omega (arith, c.requires, c.put_field-a.ensures.next, c.put_field-b.ensures.next, three_length c.args.x c.args.y c.args.z)

pub returns : goal.returns
returns c =
    let x = c.args in
    let all = three_length x.x x.y x.z in
    let two = put_join _ _ _ _ _ _ _ _ (omega (arith, c.requires, all)) c.put_field-a.ensures c.put_field-b.ensures in
    put_join _ _ _ _ _ _ _ _ (omega (arith, c.requires, all, length-append (field x.x) (field x.y))) two c.put_field.ensures
