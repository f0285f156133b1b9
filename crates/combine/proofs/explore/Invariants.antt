-- `combine::explore` meets its contract: the labels below this one have been followed.
-- Assumes nothing.
use Rattle.combine.specs.Pairs.{pair_at, pairs_in}
use Rattle.combine.proofs.Growing.{Part}
use Rattle.combine.proofs.explore.Given as goal

abbrev pub invariant-loop-label : goal.invariant-loop-label
invariant-loop-label l = Part l.first l.second (pair_at l.pair) (pairs_in l.initial.order l.n) l.order l.numbers l.entries l.known l.label
