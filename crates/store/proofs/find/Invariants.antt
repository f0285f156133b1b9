-- `store::find` meets its contract: the rows from `next` on are others, and the row before has the hash. The measure is `next`.
-- Assumes nothing.
use Rattle.store.proofs.Walk.{Walked}
use Rattle.store.proofs.find.Given as goal

abbrev pub invariant-loop-j : goal.invariant-loop-j
invariant-loop-j l = Walked l.m l.n l.row l.next

abbrev pub decreases-loop-j : goal.decreases-loop-j
decreases-loop-j l = l.next
