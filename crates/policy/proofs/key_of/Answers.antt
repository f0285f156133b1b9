-- `policy::key_of` meets its contract: each policy's parts.
-- Assumes nothing.
use Rattle.std.proofs.Common.{arith, subst}
use Rattle.policy.specs.View.{StandsFor, key_in}
use Rattle.policy.proofs.key_of.Goals as goal

pub returns-in-Edf : goal.returns-in-Edf
unfolding key_in
returns-in-Edf c = rw (subst (StandsFor c.args.policy) c.in-Edf.is c.from.ensures) (omega (arith, c.key.ensures))

pub returns-in-Srt : goal.returns-in-Srt
unfolding key_in
returns-in-Srt c = rw (subst (StandsFor c.args.policy) c.in-Srt.is c.from.ensures) (omega (arith, c.key-in-Srt.ensures))

pub returns-in-Fifo : goal.returns-in-Fifo
unfolding key_in
returns-in-Fifo c = rw (subst (StandsFor c.args.policy) c.in-Fifo.is c.from.ensures) (omega (arith, c.key-in-Fifo.ensures))

pub returns-in-Sp : goal.returns-in-Sp
unfolding key_in
returns-in-Sp c =
    let others = subst (StandsFor c.args.policy) c.in-Sp.is c.from.ensures in
    rw (others.0, others.1, others.2) (omega (arith, c.key-in-Sp.ensures))
