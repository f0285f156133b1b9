-- Each turn makes the writes of one item more.
use Rattle.std.proofs.Common.{[], ◌++◌}
use Rattle.block_cases.proofs.Moves.{moved_none, moved_then}
use Rattle.block_cases.proofs.scripts.write_items.Goals as goal

pub loop-init : goal.loop-init
loop-init c = ([], moved_none c.args.controller.now)

pub loop-preserved : goal.loop-preserved
loop-preserved c =
    let h = c.loop.invariant in
    (h.0 ++ _, moved_then _ _ _ h.0 _ h.1 c.write_item.ensures)

pub returns : goal.returns
returns c = c.loop.invariant
