-- `controller::run_writes` meets its contract: each turn makes one write, and the rest are still to be made.
-- Assumes nothing.
use Rattle.std.proofs.Common.{arith}
use Rattle.controller.proofs.Reached.{reached-start, reached-next, reached-end}
use Rattle.controller.proofs.run_writes.Goals as goal

pub loop-i-init : goal.loop-i-init
loop-i-init c = reached-start _ _ _ _ c.requires

pub step-requires : goal.step-requires
step-requires c = c.loop-i.invariant.ready

pub loop-i-preserved : goal.loop-i-preserved
loop-i-preserved c =
    reached-next _ _ _ _ _ _ c.loop-i.invariant _ c.from-byte.ensures _ (omega arith) _ (omega arith) c.step.ensures.block

pub returns : goal.returns
returns c = reached-end _ _ _ _ _ _ c.loop-i.invariant (omega arith)
