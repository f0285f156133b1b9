-- `circuit::write_steps`: one step after another. Assumes nothing.
use mathlib.Core.List.{List}
use Prim.Native.Nat.{ℕ}
use Rattle.model.specs.Graph.{Edge}
use Rattle.model.specs.Plan.{Plan}
use Rattle.circuit.specs.Circuit.{Turns}
use Rattle.circuit.proofs.Steps.{Written}
use Rattle.circuit.proofs.write_steps.Given as goal

abbrev pub invariant-loop-i : goal.invariant-loop-i
invariant-loop-i l =
    (P : Plan) (next : List ℕ) (n v : ℕ) (es : List Edge) → Turns P l.rules next l.m n l.k v es →
    Written P l.m l.k v l.i l.initial.out l.at l.out
