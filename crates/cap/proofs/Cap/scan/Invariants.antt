-- `cap::Cap::scan` meets its contract: the labels before a place tell nothing, and the sum is that of the log with them.
-- Assumes nothing.
use Rattle.cap.proofs.Scanned.{Scanned}
use Rattle.cap.proofs.Cap.scan.Given as goal

abbrev pub invariant-loop-i : goal.invariant-loop-i
invariant-loop-i l = Scanned l.self l.window l.labels l.sum l.i
