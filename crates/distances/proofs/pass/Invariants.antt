-- `distances::pass`: the nodes one after another. Assumes nothing.
use Rattle.model.specs.Plan.{Plan}
use Rattle.distances.specs.Distances.{Sought}
use Rattle.distances.proofs.Nodes.{TriedBelow}
use Rattle.distances.proofs.pass.Given as goal

abbrev pub invariant-loop-u : goal.invariant-loop-u
invariant-loop-u l =
    (P : Plan) → Sought P l.machine.rules l.machine.next l.initial.m l.claim → TriedBelow P l.claim l.u l.initial.m l.m l.moved
