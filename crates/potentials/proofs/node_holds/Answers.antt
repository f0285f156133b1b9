-- `potentials::node_holds` meets its contract: the labels one after another. Assumes nothing.
use mathlib.Core.Path.{◌≡◌, refl, sym, ap, ◌∙◌}
use Prim.Native.Nat.{ℕ, ◌^◌}
use native.Mathlib.Omega.{arith}
use Rattle.words.proofs.Free.{only_refl, only_trans}
use Rattle.model.specs.Lists.{all, up_from}
use Rattle.model.proofs.All.{all-next, all_stops}
use Rattle.policy.specs.View.{tasks_in}
use Rattle.graph.specs.View.{node_of}
use Rattle.discovery.specs.Discovery.{node_in}
use Rattle.potentials.proofs.Nodes.{label_ok, by-labels}
use Rattle.potentials.proofs.node_holds.Goals as goal

pub row-row-requires : goal.row-row-requires
row-row-requires c =
    let index = c.requires.0.test.holds.rows.index in
    (omega (arith, index.few, c.requires.1), index.room)

pub loop-label-init : goal.loop-label-init
loop-label-init c = record { passed = λ P d t. refl; free = only_refl }

pub label_holds-requires : goal.label_holds-requires
label_holds-requires c = (c.requires.0, record { below = c.requires.1; row = c.node_of-node.ensures ∙ ap node_in c.row-row.ensures })

pub returns-then-not-label_holds : goal.returns-then-not-label_holds
returns-then-not-label_holds c =
    let l = c.loop-label in
    let a = c.args in
    let r = a.machine.now.rules in
    let node = c.node_of-node.result in
    let is = c.node_of-node.ensures ∙ ap node_in c.row-row.ensures in record {
      value = λ P d t.
          sym (by-labels t a.machine.now.ruled a.u node is
          ∙ all_stops (label_ok P d a.claim a.u (node_of (tasks_in r) node)) l.label (2 ^ r.tasks.count) (omega arith)
          (sym (c.label_holds.ensures.value P d t) ∙ c.if-not-label_holds.true));
      notes_free = only_trans l.invariant.free c.label_holds.ensures.notes_free;
    }

pub loop-label-preserved : goal.loop-label-preserved
loop-label-preserved c =
    let l = c.loop-label in
    let a = c.args in
    let node = c.node_of-node.result in record {
      passed = λ P d t.
          all-next (label_ok P d a.claim a.u (node_of (tasks_in a.machine.now.rules) node)) l.label (l.invariant.passed P d t)
          (sym (c.label_holds.ensures.value P d t) ∙ c.if-not-label_holds.false);
      free = only_trans l.invariant.free c.label_holds.ensures.notes_free;
    }

pub returns : goal.returns
returns c =
    let l = c.loop-label in
    let a = c.args in
    let r = a.machine.now.rules in
    let node = c.node_of-node.result in
    let is = c.node_of-node.ensures ∙ ap node_in c.row-row.ensures in
    let done : l.label ≡ 2 ^ r.tasks.count = omega arith in record {
      value = λ P d t.
          sym (by-labels t a.machine.now.ruled a.u node is
          ∙ ap (λ (n : ℕ). all (label_ok P d a.claim a.u (node_of (tasks_in r) node)) (up_from 0 n)) (sym done)
          ∙ l.invariant.passed P d t);
      notes_free = l.invariant.free;
    }
