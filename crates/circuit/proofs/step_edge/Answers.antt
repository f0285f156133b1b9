-- `circuit::step_edge` meets its contract: a best edge from the step's node to the one after it. Assumes nothing.
use mathlib.Core.Path.{subst₂}
use Prim.Native.Nat.{ℕ}
use Rattle.links.specs.declared.Taken.{Taken}
use Rattle.circuit.specs.Circuit.{StandsFor}
use Rattle.circuit.proofs.Steps.{turns-linked}
use Rattle.circuit.proofs.step_edge.Goals as goal

pub best_edge-requires-clause-linking : goal.best_edge-requires-clause-linking
best_edge-requires-clause-linking c =
    let g = c.requires.turning.0 in
    let some = turns-linked g.turns c.requires.turning.1 c.step_at-step.ensures c.next_node-to.ensures in
    record { plan = g.plan; next = g.next; count = g.count; edge = some.0; linked = some.1 }

pub returns : goal.returns
returns c P next n v es t =
    let some = turns-linked t c.requires.turning.1 c.step_at-step.ensures c.next_node-to.ensures in
    subst₂ (λ (s : Taken) (x : ℕ). StandsFor P s.node s.label x c.best_edge.result) c.step_at-step.ensures c.next_node-to.ensures
    (c.best_edge.ensures P next n some.0 some.1)
