-- `controller::interrupt` meets its contract.
-- Assumes nothing.
use Rattle.std.proofs.Common.{Bool, not, sym, ap, eq-eqb, ne_eqb}
use lib.Bits.{bit_and}
use Rattle.model.specs.Lists.{one}
use Rattle.controller.proofs.interrupt.Goals as goal

pub returns-then-status-mask-eq0 : goal.returns-then-status-mask-eq0
returns-then-status-mask-eq0 c = ap (λ (b : Bool). one (not b)) (sym (eq-eqb (bit_and c.args.status c.args.mask) 0 c.if-status-mask-eq0.true))

pub returns : goal.returns
returns c = ap (λ (b : Bool). one (not b)) (sym (ne_eqb (bit_and c.args.status c.args.mask) 0 c.if-status-mask-eq0.false))
