-- `potentials::edges_hold` meets its contract: the nodes one after another. Assumes nothing.
use mathlib.Core.Path.{◌≡◌}
use mathlib.Core.Bool.{true}
use Rattle.model.specs.Certificate.{Certificate}
use Rattle.model.specs.Lists.{all, up_from}
use Rattle.model.specs.Plan.{Plan}
use Rattle.graph.specs.Outcomes.{NotesFree}
use Rattle.potentials.specs.Potentials.{Test}
use Rattle.potentials.proofs.Nodes.{row_ok}
use Rattle.potentials.proofs.edges_hold.Given as goal

abbrev pub invariant-loop-u : goal.invariant-loop-u
invariant-loop-u l = record {
  passed : (P : Plan) (d : Certificate) → Test P d l.machine.rules l.machine.next l.m l.s l.claim →
      all (row_ok P d l.claim l.machine.rules l.m) (up_from 0 l.u) ≡ true;
  free : NotesFree l.initial.notes l.notes;
}
