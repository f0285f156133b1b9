-- `circuit::write_steps` meets its contract: one step after another. Assumes nothing.
use mathlib.Core.Path.{sym, subst}
use Prim.Native.Nat.{◌+◌}
use Rattle.circuit.proofs.Steps.{Written, written_start, written-more, written_all}
use Rattle.circuit.proofs.write_steps.Goals as goal

pub loop-i-init : goal.loop-i-init
loop-i-init c P next n v es t = written_start t.along

pub loop-i-preserved : goal.loop-i-preserved
loop-i-preserved c P next n v es t =
    let a = c.args in
    let l = c.loop-i in
    subst (Written P a.m.now a.k v (l.i + 1) a.out.now a.at) (sym c.write_step.ensures)
    (written-more t.along c.loop-i-test.true c.requires.turning.1 (l.invariant P next n v es t) (c.step_edge-edge.ensures P next n v es t))

pub returns : goal.returns
returns c P next n v es t = written_all t.along c.loop-i-test.false (c.loop-i.invariant P next n v es t)
