-- `circuit::gains` meets its contract: one step after another. Assumes nothing.
use Rattle.std.proofs.Common.{arith}
use Rattle.theory.proofs.Sound.{sound-plan}
use Rattle.circuit.proofs.Steps.{summed_fits, summed_start, summed_more, summed_all}
use Rattle.circuit.proofs.gains.Goals as goal

pub loop-i-init : goal.loop-i-init
loop-i-init c P next n v es t = summed_start t.along

-- the sums with one step more are small
pub overflow_add-kept : goal.overflow_add-kept
overflow_add-kept c =
    let g = c.requires.turning in
    let more =
    summed_more g.turns.along c.loop-i-test.true (c.loop-i.invariant g.plan g.next g.count g.node g.edges g.turns)
    (c.step_edge-edge.ensures g.plan g.next g.count g.node g.edges g.turns) in
    let small = summed_fits (sound-plan g.plan g.turns.planned.sound) (omega (arith, c.loop-i-test.true)) more in
    record { fits = omega (arith, small.0, c.loop-i-test.true, g.few) }

pub overflow_add-ideal : goal.overflow_add-ideal
overflow_add-ideal c =
    let g = c.requires.turning in
    let more =
    summed_more g.turns.along c.loop-i-test.true (c.loop-i.invariant g.plan g.next g.count g.node g.edges g.turns)
    (c.step_edge-edge.ensures g.plan g.next g.count g.node g.edges g.turns) in
    let small = summed_fits (sound-plan g.plan g.turns.planned.sound) (omega (arith, c.loop-i-test.true)) more in
    record { fits = omega (arith, small.1, c.loop-i-test.true, g.few) }

pub loop-i-preserved : goal.loop-i-preserved
loop-i-preserved c P next n v es t =
    summed_more t.along c.loop-i-test.true (c.loop-i.invariant P next n v es t) (c.step_edge-edge.ensures P next n v es t)

pub returns : goal.returns
returns c P next n v es t = summed_all t.along c.loop-i-test.false (c.loop-i.invariant P next n v es t)
