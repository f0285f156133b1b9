-- `distances::relax_outcomes`: the outcomes one after another, until one closes a circuit.
-- Assumes nothing.
use Rattle.model.specs.Plan.{Plan}
use Rattle.distances.specs.Distances.{Offers}
use Rattle.distances.proofs.Tries.{Trying}
use Rattle.distances.proofs.relax_outcomes.Given as goal

abbrev pub invariant-loop-k : goal.invariant-loop-k
invariant-loop-k l = (P : Plan) → Offers P l.claim l.initial.m l.notes l.out → Trying P l.claim l.out l.notes l.initial.m l.m l.moved l.k
