-- `combine::join` meets its contract: the table's entry tells whether the pair is known.
-- Assumes nothing.
use native.Mathlib.Omega.{arith}
use Rattle.combine.proofs.Numbers.{join_there, join_full, join_new}
use Rattle.combine.proofs.join.Goals as goal

pub returns-then-numbers-at-ne0 : goal.returns-then-numbers-at-ne0
returns-then-numbers-at-ne0 c =
    join_there _ _ c.args.n c.requires c.args.pair (omega (arith, c.if-numbers-at-ne0.true))

pub returns-then-n-eq-MAX_STATES : goal.returns-then-n-eq-MAX_STATES
returns-then-n-eq-MAX_STATES c =
    join_full _ _ c.args.n c.requires c.args.pair (omega (arith, c.if-numbers-at-ne0.false)) c.if-n-eq-MAX_STATES.true

pub returns : goal.returns
returns c =
    join_new _ _ c.args.n c.requires c.args.pair (omega (arith, c.if-numbers-at-ne0.false)) (omega (arith, c.requires.few, c.if-n-eq-MAX_STATES.false)) (omega arith)
