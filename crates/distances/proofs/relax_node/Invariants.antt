-- `distances::relax_node`: the labels one after another. Assumes nothing.
use Rattle.model.specs.Plan.{Plan}
use Rattle.distances.specs.Distances.{Sought}
use Rattle.distances.proofs.Labels.{DoneBelow}
use Rattle.distances.proofs.relax_node.Given as goal

abbrev pub invariant-loop-label : goal.invariant-loop-label
invariant-loop-label l =
    (P : Plan) → Sought P l.machine.rules l.machine.next l.initial.m l.claim → DoneBelow P l.claim l.u l.label l.initial.m l.m l.moved
