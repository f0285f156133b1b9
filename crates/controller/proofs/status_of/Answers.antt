-- `controller::status_of` meets its contract.
-- Assumes nothing.
use Rattle.std.proofs.Common.{sym, ap, le-ltb, lt-ltb}
use Rattle.model.specs.Lists.{one}
use Rattle.controller.proofs.status_of.Goals as goal

pub returns-then-gain-gt0 : goal.returns-then-gain-gt0
returns-then-gain-gt0 c = ap one (sym (lt-ltb 0 _ c.if-gain-gt0.true))

pub returns : goal.returns
returns c = ap one (sym (le-ltb 0 _ c.if-gain-gt0.false))
