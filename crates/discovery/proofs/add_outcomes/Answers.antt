-- `discovery::add_outcomes` meets its contract: the patterns' nodes join one after another. Assumes nothing.
use mathlib.Core.Path.{◌≡◌, refl, sym, subst}
use Prim.Native.Nat.{ℕ, ◌+◌}
use native.Mathlib.Omega.{arith}
use Rattle.std.specs.Prelude.{None, Some}
use Rattle.discovery.proofs.Growing.{Added, added_none, added_more, added_many}
use Rattle.discovery.proofs.add_outcomes.Goals as goal

pub loop-k-init : goal.loop-k-init
loop-k-init c = let a = c.args in added_none a.cells a.state a.notes.now a.m.now a.n c.requires.0

pub add_node-requires : goal.add_node-requires
add_node-requires c = c.loop-k.invariant.stored c.loop-k.known refl

pub returns-in_err-known : goal.returns-in_err-known
returns-in_err-known c =
    let a = c.args in
    let l = c.loop-k in
    let after = c.add_node.new.m in
    let named = c.noted_pattern-taken in
    subst (Added a.cells a.state a.notes.now a.m.now a.n a.count after) (sym c.from_residual.ensures)
    (added_many a.cells a.state a.notes.now a.m.now a.n (l.k + 1) a.count after (omega arith)
    (added_more a.cells a.state a.notes.now a.m.now a.n l.k l.m l.known l.invariant named.result named.ensures.0 after None c.in_err-known.ensures))

pub loop-k-preserved : goal.loop-k-preserved
loop-k-preserved c =
    let a = c.args in
    let l = c.loop-k in
    let named = c.noted_pattern-taken in
    added_more a.cells a.state a.notes.now a.m.now a.n l.k l.m l.known l.invariant named.result named.ensures.0
    c.add_node.new.m (Some c.in_ok-known.known) c.in_ok-known.ensures

pub returns : goal.returns
returns c =
    let a = c.args in
    let l = c.loop-k in
    let all : l.k ≡ a.count = omega arith in
    subst (λ (k : ℕ). Added a.cells a.state a.notes.now a.m.now a.n k l.m (Some l.known)) all l.invariant
