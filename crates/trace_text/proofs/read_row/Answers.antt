-- `trace_text::read_row` meets its contract: a byte, the two bytes after it, and the byte after these.
-- Assumes nothing.
use Prim.Native.Nat.{◌+◌}
use lib.ListN.{get_or}
use Rattle.trace_text.proofs.read_row.Goals as goal

pub returns : goal.returns
returns c =
    let a = c.args in
    λ i. record { ran = get_or a.rows.now a.at 0; gain = c.read_u16-gain.ensures i; cut = get_or a.rows.now (a.at + 3) 0 }
