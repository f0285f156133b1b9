-- `potentials::edges_hold` meets its contract: the nodes one after another. Assumes nothing.
use mathlib.Core.Path.{◌≡◌, refl, sym, ap, ◌∙◌}
use Prim.Native.Nat.{ℕ}
use native.Mathlib.Omega.{arith}
use Rattle.words.proofs.Free.{only_refl, only_trans}
use Rattle.model.specs.Lists.{all, up_from}
use Rattle.model.proofs.All.{all-next, all_stops}
use Rattle.potentials.proofs.Nodes.{row_ok, edges-rows}
use Rattle.potentials.proofs.edges_hold.Goals as goal

pub loop-u-init : goal.loop-u-init
loop-u-init c = record { passed = λ P d t. refl; free = only_refl }

pub returns-then-not-node_holds : goal.returns-then-not-node_holds
returns-then-not-node_holds c =
    let l = c.loop-u in
    let a = c.args in record {
      value = λ P d t.
          sym (edges-rows t
          ∙ all_stops (row_ok P d a.claim a.machine.now.rules a.m.now) l.u a.claim.n (omega arith)
          (sym (c.node_holds.ensures.value P d t) ∙ c.if-not-node_holds.true));
      notes_free = only_trans l.invariant.free c.node_holds.ensures.notes_free;
    }

pub loop-u-preserved : goal.loop-u-preserved
loop-u-preserved c =
    let l = c.loop-u in
    let a = c.args in record {
      passed = λ P d t.
          all-next (row_ok P d a.claim a.machine.now.rules a.m.now) l.u (l.invariant.passed P d t)
          (sym (c.node_holds.ensures.value P d t) ∙ c.if-not-node_holds.false);
      free = only_trans l.invariant.free c.node_holds.ensures.notes_free;
    }

pub returns : goal.returns
returns c =
    let a = c.args in
    let l = c.loop-u in
    let done : l.u ≡ a.claim.n = omega arith in record {
      value = λ P d t.
          sym (edges-rows t
          ∙ ap (λ (n : ℕ). all (row_ok P d a.claim a.machine.now.rules a.m.now) (up_from 0 n)) (sym done)
          ∙ l.invariant.passed P d t);
      notes_free = l.invariant.free;
    }
