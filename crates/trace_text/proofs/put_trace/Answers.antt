-- A refusal is its line, a trace its table.
use mathlib.Core.Path.{sym, ap, ◌∙◌}
use native.Mathlib.Omega.{arith}
use Rattle.model.specs.Text.{refused_line}
use Rattle.words.proofs.Put.{put_as}
use Rattle.text.proofs.Put.{counted}
use Rattle.text.proofs.Decimal.{refused-length, decimal-length}
use Rattle.trace_text.proofs.Text.{refusal-text, table-text}
use Rattle.trace_text.proofs.put_trace.Goals as goal

pub put_refusal-requires : goal.put_refusal-requires
put_refusal-requires c =
    let n = c.number.result in
    omega (arith, c.requires, refused-length n, decimal-length 19 n (omega arith))

pub put_table-requires : goal.put_table-requires
put_table-requires c =
    let room = sym c.rows_room-rows.ensures in
    let few = (table-text _ _ _ _ _ room _ c.in-Ok.ensures.told).few in
    (few, omega (arith, few, room, c.trace.auto.out), omega (arith, c.requires))

pub returns-in-Err : goal.returns-in-Err
returns-in-Err c =
    let n = c.number.result in
    let told = c.in-Err.ensures.told in
    record {
      put = put_as (ap refused_line c.number.ensures ∙ refusal-text _ _ _ _ _ (sym c.rows_room-rows.ensures) _ told) c.put_refusal.ensures;
      prefix_len = counted _ _ (omega (arith, c.put_refusal.ensures.next, refused-length n, decimal-length 19 n (omega arith), c.requires));
    }

pub returns-in-Ok : goal.returns-in-Ok
returns-in-Ok c =
    record {
      put = put_as (table-text _ _ _ _ _ (sym c.rows_room-rows.ensures) _ c.in-Ok.ensures.told).text c.put_table.ensures.put;
      prefix_len = counted _ _ (omega (arith, c.put_table.ensures.upper_bound, c.requires));
    }
