-- `circuit::gains`: the sums of the steps so far. Assumes nothing.
use Rattle.std.proofs.Common.{List, ℕ}
use Rattle.model.specs.Graph.{Edge}
use Rattle.model.specs.Plan.{Plan}
use Rattle.circuit.specs.Circuit.{Turns}
use Rattle.circuit.proofs.Steps.{Summed}
use Rattle.circuit.proofs.gains.Given as goal

abbrev pub invariant-loop-i : goal.invariant-loop-i
invariant-loop-i l =
    (P : Plan) (next : List ℕ) (n v : ℕ) (es : List Edge) → Turns P l.rules next l.m n l.k v es → Summed P l.m l.k v l.i l.kept l.ideal
