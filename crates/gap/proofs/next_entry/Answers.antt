-- `gap::next_entry` meets its contract: each return is a clause of the definition.
-- Assumes nothing.
use native.Mathlib.Omega.{arith}
use Rattle.gap.proofs.Automaton.{stays, waits, crowded, opened, closed}
use Rattle.gap.proofs.next_entry.Goals as goal

pub returns-then-state-eq0 : goal.returns-then-state-eq0
returns-then-state-eq0 c = let a = c.args in stays a.slots a.state a.released c.if-released-eq0.true c.if-state-eq0.true

pub returns-then-released-eq0 : goal.returns-then-released-eq0
returns-then-released-eq0 c = let a = c.args in waits a.slots a.state a.released c.if-released-eq0.true (omega (arith, c.if-state-eq0.false))

pub returns-then-released-gt1 : goal.returns-then-released-gt1
returns-then-released-gt1 c = let a = c.args in crowded a.slots a.state a.released c.if-released-gt1.true

pub returns-then-state-eq0-2 : goal.returns-then-state-eq0-2
returns-then-state-eq0-2 c =
    let a = c.args in
    opened a.slots a.state a.released (omega (arith, c.if-released-eq0.false, c.if-released-gt1.false)) c.if-state-eq0-2.true c.requires

pub returns : goal.returns
returns c =
    let a = c.args in
    closed a.slots a.state a.released (omega (arith, c.if-released-eq0.false, c.if-released-gt1.false)) (omega (arith, c.if-state-eq0-2.false))
