-- `discovery::explore_node` meets its contract: the labels one after another. Assumes nothing.
use Rattle.std.specs.Prelude.{Some}
use Rattle.policy.specs.View.{tasks_in}
use Rattle.graph.specs.Outcomes.{NotesFree}
use Rattle.graph.specs.View.{node_of}
use Rattle.discovery.specs.Discovery.{Explored, edges_below}
use Rattle.discovery.proofs.explore_node.Given as goal

abbrev pub invariant-loop-label : goal.invariant-loop-label
invariant-loop-label l = record {
  explored : Explored l.machine.rules (edges_below l.machine.next (node_of (tasks_in l.machine.rules) l.node) l.label) l.initial.m l.n l.m (Some l.known);
  notes_free : NotesFree l.initial.notes l.notes;
}
