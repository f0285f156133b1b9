-- The loop writes the table from the front.
use Rattle.std.proofs.Common.{refl, sym, arith}
use Rattle.words.proofs.Memory.{overwrite-none}
use Rattle.words.proofs.Tables.{written-more, written_all}
use Rattle.plan.specs.View.{list_of}
use Rattle.policy.specs.View.{slot_cells, left_in}
use Rattle.policy.proofs.left_table.Goals as goal

pub loop-k-init : goal.loop-k-init
loop-k-init c = sym (overwrite-none _ 0)

pub loop-k-preserved : goal.loop-k-preserved
loop-k-preserved c =
    let k = c.loop-k.k in
    written-more (left_in (list_of c.args.tasks.now)) 0 _ 0 k k k (omega arith) (omega arith) c.loop-k-test.true c.left_in.ensures c.loop-k.invariant

pub returns : goal.returns
returns c = written_all (left_in (list_of c.args.tasks.now)) 0 _ c.loop-k.k slot_cells (omega arith) refl c.loop-k.invariant
