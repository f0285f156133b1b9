-- What holds before each command that `plan::read_in` reads.
-- Assumes nothing.
use lib.ListN.{length}
use Rattle.node.specs.Edition.{edition_of}
use Rattle.plan.proofs.Turn.{Reached}
use Rattle.plan.proofs.read_in.Given as goal

-- the bytes before the rest have been read
abbrev pub invariant-loop-c : goal.invariant-loop-c
invariant-loop-c l = Reached (edition_of l.fn.edition) l.fn.s l.next l.r l.rest

abbrev pub decreases-loop-c : goal.decreases-loop-c
decreases-loop-c l = length l.rest
