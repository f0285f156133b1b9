-- `controller::replay` meets its contract: the plan's fault, or the registers after the writes.
-- Assumes nothing.
use Rattle.std.proofs.lemmas.Result.{err_from_is_err_and}
use Rattle.controller.proofs.Replays.{no_block, block-left}
use Rattle.controller.proofs.replay.Goals as goal

pub returns-in_err-controller : goal.returns-in_err-controller
returns-in_err-controller c =
    let p = err_from_is_err_and c.from_residual.result c.from_residual.ensures.1 in
    rw (p.1, p.2) (no_block _ _ _ _ c.in_err-controller.ensures)

pub returns : goal.returns
returns c =
    let t = c.in_ok-controller.ensures in
    block-left _ _ _ t.0 t.1 _ t.2 _ _ c.registers_after.ensures c.last_refusal.ensures
