-- `check_cap::feed_parts` meets its contract: the parts so far are one list of labels, and the next one goes behind it.
-- Assumes nothing.
use mathlib.Core.List.{[], ◌++◌}
use Prim.Native.Nat.{◌+◌, ◌-◌, ◌*◌, ◌≤◌}
use native.Mathlib.Omega.{arith}
use Rattle.cap.proofs.Answers.{feeds_none, feeds_parts, watching_more}
use lib.ListN.{length}
use Rattle.check_cap.specs.Commands.{part_bytes, most_parts}
use Rattle.check_cap.proofs.feed_parts.Goals as goal

pub loop-part-init : goal.loop-part-init
loop-part-init c = record { labels = []; fed = feeds_none _ _; goes = c.requires }

pub feed_part-fed-requires : goal.feed_part-fed-requires
feed_part-fed-requires c =
    watching_more _ _ _ [] ((most_parts - c.loop-part._part) * part_bytes) part_bytes (omega (arith, c.loop-part-test.true)) (feeds_none _ _) c.loop-part.invariant.goes

pub returns-then-not-goes_on : goal.returns-then-not-goes_on
returns-then-not-goes_on c =
    let h = c.loop-part.invariant in
    let p = c.feed_part-fed.ensures in
    (h.labels ++ p.0, feeds_parts _ _ _ _ h.labels p.0 h.fed p.3)

pub loop-part-preserved : goal.loop-part-preserved
loop-part-preserved c =
    let h = c.loop-part.invariant in
    let p = c.feed_part-fed.ensures in
    let left : length p.0 + (most_parts - (c.loop-part._part + 1)) * part_bytes ≤ (most_parts - c.loop-part._part) * part_bytes = omega (arith, p.2, c.loop-part-test.true) in
    record {
      labels = h.labels ++ p.0;
      fed = feeds_parts _ _ _ _ h.labels p.0 h.fed p.3;
      goes = watching_more _ _ _ p.0 ((most_parts - c.loop-part._part) * part_bytes) ((most_parts - (c.loop-part._part + 1)) * part_bytes) left p.3 h.goes;
    }

pub returns : goal.returns
returns c = let h = c.loop-part.invariant in (h.labels, h.fed)
