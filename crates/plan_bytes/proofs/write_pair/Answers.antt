-- `plan_bytes::write_pair` meets its contract: an arc, or nothing.
-- Assumes nothing.
use native.Mathlib.Omega.{arith}
use Rattle.words.proofs.Put.{put-none}
use Rattle.plan_bytes.proofs.Pieces.{pair_bytes}
use Rattle.plan_bytes.proofs.write_pair.Goals as goal

pub returns-then-entry-eq0 : goal.returns-then-entry-eq0
returns-then-entry-eq0 c = rw c.if-entry-eq0.true (put-none _ _)

pub returns : goal.returns
returns c =
    let a = c.args in
    rw (pair_bytes a.k a.entry (omega (arith, c.if-entry-eq0.false))) c.write_four.ensures
