-- The loop writes the cells from the front.
use Rattle.std.proofs.Common.{refl, sym, ◌+◌, arith}
use Rattle.words.proofs.Memory.{overwrite-none}
use Rattle.words.proofs.Tables.{written-more, written_all}
use Rattle.model.specs.Limits.{max_tasks}
use Rattle.policy.specs.View.{cell_count, staying_in, aged}
use Rattle.policy.proofs.age.Goals as goal

pub loop-k-init : goal.loop-k-init
loop-k-init c = sym (overwrite-none _ 0)

pub loop-k-preserved : goal.loop-k-preserved
loop-k-preserved c =
    let k = c.loop-k.k in
    written-more (staying_in c.args.cells.now c.args.left.now) max_tasks _ 0 k k (max_tasks + k) (omega arith) refl c.loop-k-test.true c.if_staying.ensures c.loop-k.invariant

pub returns : goal.returns
unfolding aged
returns c = written_all (staying_in c.args.cells.now c.args.left.now) max_tasks _ c.loop-k.k cell_count (omega arith) refl c.loop-k.invariant
