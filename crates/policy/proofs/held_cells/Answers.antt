-- The loop writes the cells from the front.
use Rattle.std.proofs.Common.{refl, sym, arith}
use Rattle.words.proofs.Memory.{overwrite-none}
use Rattle.words.proofs.Tables.{written-more, written_all}
use Rattle.policy.specs.View.{slot_cells, held_in, held_cells}
use Rattle.policy.proofs.held_cells.Goals as goal

pub loop-k-init : goal.loop-k-init
loop-k-init c = sym (overwrite-none _ 0)

pub loop-k-preserved : goal.loop-k-preserved
loop-k-preserved c =
    let k = c.loop-k.k in
    written-more (held_in c.args.cells.now c.args.hold.now) 0 _ 0 k k k (omega arith) (omega arith) c.loop-k-test.true c.if_held.ensures c.loop-k.invariant

pub returns : goal.returns
unfolding held_cells
returns c = written_all (held_in c.args.cells.now c.args.hold.now) 0 _ c.loop-k.k slot_cells (omega arith) refl c.loop-k.invariant
