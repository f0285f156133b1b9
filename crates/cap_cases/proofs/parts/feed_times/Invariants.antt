-- `cap_cases::parts::feed_times` meets its contract: each turn feeds the labels once more.
-- Assumes nothing.
use Rattle.cap_cases.proofs.Times.{Through}
use Rattle.cap_cases.proofs.parts.feed_times.Given as goal

abbrev pub invariant-loop-made : goal.invariant-loop-made
invariant-loop-made l = Through l.cap l.initial.after l.after l.labels l.times l._made
