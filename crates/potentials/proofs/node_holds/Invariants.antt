-- `potentials::node_holds` meets its contract: the labels one after another. Assumes nothing.
use mathlib.Core.Path.{◌≡◌}
use mathlib.Core.Bool.{true}
use Rattle.model.specs.Certificate.{Certificate}
use Rattle.model.specs.Lists.{all, up_from}
use Rattle.model.specs.Plan.{Plan}
use Rattle.policy.specs.View.{tasks_in}
use Rattle.graph.specs.Outcomes.{NotesFree}
use Rattle.graph.specs.View.{node_of}
use Rattle.potentials.specs.Potentials.{Test}
use Rattle.potentials.proofs.Nodes.{label_ok}
use Rattle.potentials.proofs.node_holds.Given as goal

abbrev pub invariant-loop-label : goal.invariant-loop-label
invariant-loop-label l = record {
  passed : (P : Plan) (d : Certificate) → Test P d l.machine.rules l.machine.next l.m l.s l.claim →
      all (label_ok P d l.claim l.u (node_of (tasks_in l.machine.rules) l.node)) (up_from 0 l.label) ≡ true;
  free : NotesFree l.initial.notes l.notes;
}
