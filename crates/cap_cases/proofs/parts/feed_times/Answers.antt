-- `cap_cases::parts::feed_times` meets its contract: each turn feeds the labels once more.
-- Assumes nothing.
use Rattle.cap_cases.proofs.Times.{through_start, through_goes, through_next, through_end}
use Rattle.cap_cases.proofs.parts.feed_times.Goals as goal

pub loop-made-init : goal.loop-made-init
loop-made-init c = through_start _ _ _ _ c.requires

pub feed-after-requires : goal.feed-after-requires
feed-after-requires c = through_goes _ _ _ _ _ _ c.loop-made.invariant c.loop-made-test.true

pub loop-made-preserved : goal.loop-made-preserved
loop-made-preserved c = through_next _ _ _ _ _ _ c.loop-made.invariant c.loop-made-test.true _ c.feed-after.ensures

pub returns : goal.returns
returns c = through_end _ _ _ _ _ _ c.loop-made.invariant c.loop-made-test.false
