-- `discovery::explore_node` meets its contract: the labels one after another. Assumes nothing.
use mathlib.Core.Path.{sym, subst}
use Prim.Native.Nat.{◌+◌, ◌^◌}
use native.Mathlib.Omega.{arith}
use Rattle.std.specs.Prelude.{None, Some}
use Rattle.words.proofs.Free.{only_trans}
use Rattle.policy.specs.View.{tasks_in}
use Rattle.graph.specs.View.{node_of}
use Rattle.discovery.specs.Discovery.{Explored, edges_below}
use Rattle.discovery.proofs.Growing.{explored-held, label-more, label-many}
use Rattle.discovery.proofs.explore_node.Goals as goal

pub follow_label-requires-clause-holding : goal.follow_label-requires-clause-holding
follow_label-requires-clause-holding c =
    let a = c.args in
    let l = c.loop-label in
    let r = a.machine.now.rules in
    explored-held r (edges_below a.machine.now.next (node_of (tasks_in r) a.node.now) l.label) a.m.now a.n l.m l.known l.invariant.explored

pub returns-in_err-known-clause-explored : goal.returns-in_err-known-clause-explored
returns-in_err-known-clause-explored c =
    let a = c.args in
    let l = c.loop-label in
    let r = a.machine.now.rules in
    let next = a.machine.now.next in
    let u = node_of (tasks_in r) a.node.now in
    let after = c.follow_label.new.m in
    subst (Explored r (edges_below next u (2 ^ r.tasks.count)) a.m.now a.n after) (sym c.from_residual.ensures)
    (label-many r next u a.m.now a.n (l.label + 1) (2 ^ r.tasks.count) after (omega arith)
    (label-more r next u a.m.now a.n l.label l.m l.known l.invariant.explored after None c.in_err-known.ensures.explored))

pub loop-label-preserved : goal.loop-label-preserved
loop-label-preserved c =
    let a = c.args in
    let l = c.loop-label in
    let r = a.machine.now.rules in
    record {
      explored =
          label-more r a.machine.now.next (node_of (tasks_in r) a.node.now) a.m.now a.n l.label l.m l.known l.invariant.explored
          c.follow_label.new.m (Some c.in_ok-known.known) c.in_ok-known.ensures.explored;
      notes_free = only_trans l.invariant.notes_free c.follow_label.ensures.notes_free;
    }
