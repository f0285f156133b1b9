-- `discovery::follow_label` meets its contract, by whether the label is admitted. Assumes nothing.
use mathlib.Core.Path.{ap}
use mathlib.Core.List.{[]}
use mathlib.Core.Option.{some}
use Rattle.std.specs.Prelude.{Some}
use Rattle.words.proofs.Free.{only_refl}
use Rattle.model.specs.Graph.{edges_to}
use Rattle.policy.specs.View.{tasks_in}
use Rattle.graph.specs.View.{node_of}
use Rattle.discovery.specs.Discovery.{edges_by}
use Rattle.discovery.proofs.Growing.{explored-none, explored-same}
use Rattle.discovery.proofs.follow_label.Goals as goal

pub returns-in_default : goal.returns-in_default
returns-in_default c =
    let a = c.args in
    let m = a.machine.now in
    let u = node_of (tasks_in m.rules) a.node.now in record {
      explored = explored-same m.rules (λ P. []) (edges_by m.next u a.label) a.m.now a.n a.m.now (Some a.n)
          (λ P. ap (edges_to P u a.label) c.in_default.ensures)
          (explored-none m.rules a.m.now a.n c.requires.holding);
      notes_free = only_refl;
    }

pub returns : goal.returns
returns c =
    let a = c.args in
    let m = a.machine.now in
    let u = node_of (tasks_in m.rules) a.node.now in record {
      explored = explored-same m.rules (λ P. edges_to P u a.label (some c.in-Some.to)) (edges_by m.next u a.label)
          a.m.now a.n c.explore_label.new.m c.explore_label.result
          (λ P. ap (edges_to P u a.label) c.in-Some.ensures)
          c.explore_label.ensures.explored;
      notes_free = c.explore_label.ensures.notes_free;
    }
