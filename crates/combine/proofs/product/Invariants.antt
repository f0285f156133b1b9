-- `combine::product` meets its contract: the pairs before k have been explored.
-- Assumes nothing.
use Prim.Native.Nat.{◌-◌}
use Rattle.model.specs.Limits.{max_states}
use Rattle.combine.proofs.Whole.{Reached}
use Rattle.combine.proofs.product.Given as goal

abbrev pub invariant-loop-k : goal.invariant-loop-k
invariant-loop-k l =
    Reached l.first l.second l.tasks.count l.order l.numbers l.next l.states l.k

abbrev pub decreases-loop-k : goal.decreases-loop-k
decreases-loop-k l =
    max_states - l.k
