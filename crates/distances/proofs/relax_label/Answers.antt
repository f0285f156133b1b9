-- `distances::relax_label` meets its contract, by whether the label is admitted. Assumes nothing.
use Rattle.model.specs.Plan.{Plan}
use Rattle.policy.specs.View.{tasks_in}
use Rattle.graph.specs.Outcomes.{pattern_count}
use Rattle.potentials.specs.Best.{Expanded}
use Rattle.potentials.proofs.Numbers.{numbered-cells, numbered-low, numbered-taken}
use Rattle.distances.specs.Distances.{Sought}
use Rattle.distances.proofs.Admitted.{leads-of, label-none, label-offers, label-done}
use Rattle.distances.proofs.relax_label.Goals as goal
use Rattle.distances.proofs.relax_label.Goals.{After-reach-noted}

pub next-requires : goal.next-requires
next-requires c =
    let a = c.args in
    let g = c.requires.0 in
    numbered-low g.plan (tasks_in a.machine.now.rules) a.m.now a.claim.n g.sought.priced.holds g.sought.priced.planned.sound a.source.now.number
    a.source.now.node c.requires.1

pub returns-in_default : goal.returns-in_default
returns-in_default c P t = label-none t (leads-of t c.requires.1 c.in_default.ensures)

pub reach-noted-requires-clause-node : goal.reach-noted-requires-clause-node
reach-noted-requires-clause-node c =
    let a = c.args in
    let g = c.requires.0 in
    let ts = tasks_in a.machine.now.rules in (
      numbered-cells g.plan ts a.m.now a.claim.n g.sought.priced.holds a.source.now.number a.source.now.node c.requires.1,
      numbered-taken g.plan ts a.m.now a.claim.n g.sought.priced.holds g.sought.priced.planned.sound a.source.now.number a.source.now.node c.requires.1,
    )

-- what is noted
expanded : (c : After-reach-noted) (P : Plan) →
    let a = c.args in
    let r = a.machine.now.rules in
    Sought P r a.machine.now.next a.m.now a.claim →
    Expanded P r a.machine.now.next a.m.now a.claim.n a.source.now.number a.source.now.node a.source.now.label c.in-Some.state a.notes.now
    c.reach-noted.new.notes c.reach-noted.result
expanded c P t =
    let a = c.args in
    let r = a.machine.now.rules in record {
      leads = leads-of t c.requires.1 c.in-Some.ensures;
      ruled = a.machine.now.ruled;
      low = numbered-taken P (tasks_in r) a.m.now a.claim.n t.priced.holds t.priced.planned.sound a.source.now.number a.source.now.node c.requires.1;
      wanted = pattern_count;
      reaches = c.reach-noted.ensures.reaches;
    }

pub relax_outcomes-requires : goal.relax_outcomes-requires
relax_outcomes-requires c =
    let g = c.requires.0 in
    let e = expanded (goal.at.relax_outcomes-requires c).After-reach-noted g.plan g.sought in
    record { plan = g.plan; offers = label-offers g.sought e c.from.ensures c.requires.2 }

pub returns : goal.returns
returns c P t =
    let e = expanded (goal.at.returns c).After-reach-noted P t in
    label-done t e c.from.ensures c.relax_outcomes.result (c.relax_outcomes.ensures P (label-offers t e c.from.ensures c.requires.2))
