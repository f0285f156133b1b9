-- The header, then the lines.
use native.Mathlib.Omega.{arith}
use Rattle.words.proofs.Put.{put_join}
use Rattle.trace_text.proofs.Rows.{rows_fit_lem}
use Rattle.trace_text.proofs.put_table.Goals as goal

pub returns : goal.returns
returns c =
    let s = c.requires in
    let lines =
    rows_fit_lem 0 c.args.labels.now c.args.rows.now (omega (arith, s.0)) (λ i. (c.type_inv.labels i).fits) (λ i. (c.type_inv.rows i).fits) s.1 in
    record {
      put = put_join _ _ _ 0 _ _ _ _ (omega (arith, s.0, s.2, lines)) c.put_bytes-at.ensures c.put_rows.ensures;
      upper_bound = omega (arith, c.put_rows.ensures.next, c.put_bytes-at.ensures.next, s.0, lines);
    }
