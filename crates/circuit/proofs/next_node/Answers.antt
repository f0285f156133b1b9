-- `circuit::next_node` meets its contract, by whether the step is the last one. Assumes nothing.
use mathlib.Core.Path.{◌≡◌, sym, ap, ◌∙◌}
use mathlib.Core.Bool.{Bool, cond}
use mathlib.Core.List.{List}
use Prim.Native.Nat.{ℕ, ◌+◌}
use borrow.Author.Tests.{eq-eqb, ne_eqb}
use Rattle.links.specs.Links.{taken_in}
use Rattle.links.specs.declared.Taken.{Taken}
use Rattle.circuit.proofs.next_node.Goals as goal

-- by the test
by-test : (m : List ℕ) (i : ℕ) {b b' : Bool} → b ≡ b' →
    cond b (taken_in m 0).node (taken_in m (i + 1)).node ≡ cond b' (taken_in m 0).node (taken_in m (i + 1)).node
by-test m i e = ap (λ (b : Bool). cond b (taken_in m 0).node (taken_in m (i + 1)).node) e

pub returns-then-i-k : goal.returns-then-i-k
returns-then-i-k c =
    let a = c.args in
    ap (λ (s : Taken). s.node) c.step_at.ensures
    ∙ sym (by-test a.m.now a.i (eq-eqb (a.i + 1) a.k c.if-i-k.true))

pub returns : goal.returns
returns c =
    let a = c.args in
    ap (λ (s : Taken). s.node) c.step_at-2.ensures
    ∙ sym (by-test a.m.now a.i (ne_eqb (a.i + 1) a.k c.if-i-k.false))
