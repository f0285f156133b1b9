-- `plan_bytes::write_four` meets its contract: the bytes are copied.
-- Assumes nothing.
use native.Mathlib.Omega.{arith}
use lib.Seq.{take_all}
use Rattle.plan_bytes.proofs.write_four.Goals as goal

pub returns : goal.returns
returns c =
    let a = c.args in record {
      bytes = rw (take_all 4 a.bytes (omega arith)) at c.copy.ensures;
      next = omega arith;
    }
