-- `links::put_cycle`: before each step those from there on are the last on the way down.
-- Assumes nothing.
use Rattle.links.proofs.Climb.{Trailing}
use Rattle.links.proofs.put_cycle.Given as goal

abbrev pub invariant-loop-left : goal.invariant-loop-left
invariant-loop-left l = Trailing l.fn.m l.u l.j l.m l.at l.left
