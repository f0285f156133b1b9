-- `discovery::explore_label` meets its contract. Assumes nothing.
use Rattle.policy.specs.View.{tasks_in}
use Rattle.graph.specs.Outcomes.{pattern_count}
use Rattle.graph.specs.Label.{order_in}
use Rattle.graph.proofs.Labels.{label-order}
use Rattle.discovery.proofs.Labels.{label-explored}
use Rattle.discovery.proofs.explore_label.Goals as goal

pub returns : goal.returns
returns c =
    let a = c.args in
    let m = a.machine.now in
    let u = a.node.now in
    let noted = c.reach-noted.ensures.reaches in
    let d = c.reach-noted.result in
    let after = c.reach-noted.new.notes in record {
      explored = label-explored m.rules u a.label a.state d.done (order_in after d.count) a.m.now a.n
          c.add_outcomes.new.m c.add_outcomes.result
          (label-order (tasks_in m.rules) m.ruled.tasks a.label u.taken pattern_count c.requires.node.1 after d.count noted.notes)
          noted.slot c.requires.holding c.add_outcomes.ensures;
      notes_free = noted.only;
    }
