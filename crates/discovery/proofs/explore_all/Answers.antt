-- `discovery::explore_all` meets its contract: the rows one after another. Assumes nothing.
use mathlib.Core.Path.{refl, sym, ap, subst, ◌∙◌}
use mathlib.Core.List.{List}
use Prim.Native.Nat.{ℕ, suc}
use native.Mathlib.Numerals.{add-one}
use native.Mathlib.Omega.{arith}
use Rattle.std.specs.Prelude.{None, Some}
use Rattle.words.proofs.Free.{only_refl, only_trans}
use Rattle.model.specs.Discovery.{found}
use Rattle.model.specs.Graph as model
use Rattle.model.specs.Graph.{nodes}
use Rattle.theory.proofs.Nodes.{explored}
use Rattle.policy.specs.View.{tasks_in}
use Rattle.discovery.specs.Discovery.{node_in, Known}
use Rattle.discovery.proofs.Growing.{known-none}
use Rattle.discovery.proofs.Whole.{row-cells, row-state, row-taken, next_turn, whole-many, whole-end}
use Rattle.discovery.proofs.explore_all.Goals as goal

pub loop-k-init : goal.loop-k-init
unfolding found
loop-k-init c =
    let a = c.args in
    let ts = tasks_in a.machine.now.rules in
    let b = c.requires.1 in
    record {
      done = omega arith;
      few = b.held.index.few;
      known = λ P p. subst (λ (ns : List model.Node). Known ts ns a.m.now a.m.now (Some a.n)) b.nodes (known-none ts a.m.now a.n b.held);
      notes_free = only_refl;
    }

pub explore_node-requires-clause-node : goal.explore_node-requires-clause-node
explore_node-requires-clause-node c =
    let l = c.loop-k in
    let a = c.args in
    let m = a.machine.now in
    let b = c.requires.0 in
    let named = c.node_of-node.ensures ∙ ap node_in c.row.ensures in
    let u = c.node_of-node.result in (
      row-cells m.rules m.ruled m.next a.m.now l.m l.known l.k (omega arith) l.invariant.known u named b.plan b.planned,
      row-state m.rules m.ruled m.next a.m.now l.m l.known l.k (omega arith) l.invariant.known u named b.plan b.planned,
      row-taken m.rules m.ruled m.next a.m.now l.m l.known l.k (omega arith) l.invariant.known u named b.plan b.planned,
    )

pub explore_node-requires-clause-holding : goal.explore_node-requires-clause-holding
explore_node-requires-clause-holding c =
    let l = c.loop-k in
    let b = c.requires.0 in
    ((l.invariant.known b.plan b.planned).held l.known refl).0

pub returns-in_err-known-clause-known : goal.returns-in_err-known-clause-known
returns-in_err-known-clause-known c =
    λ P p.
    let l = c.loop-k in
    let a = c.args in
    let m = a.machine.now in
    let after = c.explore_node.new.m in
    let then =
    next_turn m.rules m.ruled m.next a.m.now l.m l.known l.k (omega arith) l.invariant.known
    c.node_of-node.result (c.node_of-node.ensures ∙ ap node_in c.row.ensures) after None c.in_err-known.ensures.explored in
    subst (Known (tasks_in m.rules) (nodes P) a.m.now after) (sym c.from_residual.ensures)
    (whole-many P (tasks_in m.rules) a.m.now after (suc l.k) (omega (arith, l.invariant.few)) (then P p))

pub loop-k-preserved : goal.loop-k-preserved
loop-k-preserved c =
    let l = c.loop-k in
    let a = c.args in
    let m = a.machine.now in
    let b = c.requires.0 in
    let after = c.explore_node.new.m in
    let known = c.in_ok-known.known in
    let then =
    next_turn m.rules m.ruled m.next a.m.now l.m l.known l.k (omega arith) l.invariant.known
    c.node_of-node.result (c.node_of-node.ensures ∙ ap node_in c.row.ensures) after (Some known) c.in_ok-known.ensures.explored in
    record {
      done = omega (arith, l.invariant.few);
      few = ((then b.plan b.planned).held known refl).0.index.few;
      known = λ P p. subst (λ (i : ℕ). Known (tasks_in m.rules) (explored P i) a.m.now after (Some known)) (sym (add-one l.k)) (then P p);
      notes_free = only_trans l.invariant.notes_free c.explore_node.ensures.notes_free;
    }

pub returns-clause-known : goal.returns-clause-known
returns-clause-known c =
    λ P p.
    let a = c.args in
    let l = c.loop-k in
    whole-end P (tasks_in a.machine.now.rules) a.m.now l.m l.k l.invariant.done l.known (omega arith) (l.invariant.known P p)
