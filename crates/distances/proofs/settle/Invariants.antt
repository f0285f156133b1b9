-- `distances::settle`: passes until nothing moves. Assumes nothing.
use Rattle.model.specs.Plan.{Plan}
use Rattle.theory.specs.Lightest.{max_weight}
use Rattle.theory.specs.Search.{remaining}
use Rattle.links.specs.Links.{state_in}
use Rattle.distances.specs.Distances.{Sought}
use Rattle.distances.proofs.Passes.{Passed}
use Rattle.distances.proofs.settle.Given as goal

abbrev pub invariant-loop-passes : goal.invariant-loop-passes
invariant-loop-passes l = (P : Plan) → Sought P l.machine.rules l.machine.next l.initial.m l.claim → Passed P l.claim l.initial.m l.m l.passes

abbrev pub decreases-loop-passes : goal.decreases-loop-passes
decreases-loop-passes l = remaining l.claim.n max_weight (state_in l.m)
