-- `check_cap::feed_part` meets its contract: what was read is fed.
-- Assumes nothing.
use mathlib.Core.List.{[]}
use native.Mathlib.Omega.{arith}
use lib.ListN.{take}
use Rattle.cap.proofs.Answers.{feeds_none, watching_more}
use Rattle.check_cap.specs.Commands.{part_bytes}
use Rattle.check_cap.proofs.feed_part.Goals as goal

pub feed-watch-requires : goal.feed-watch-requires
feed-watch-requires c = watching_more _ _ _ [] part_bytes _ (omega (arith, c.read_part-count.ensures, c.read_part-count.auto, c.large_buffer-labels.type_inv)) (feeds_none _ _) c.requires

pub returns : goal.returns
returns c =
    (take c.read_part-count.result c.read_part-count.new.buf, c.read_part-count.ensures.prefix_len.1, omega (arith, c.read_part-count.ensures, c.read_part-count.auto, c.large_buffer-labels.type_inv), c.feed-watch.ensures)
