-- Each turn of the loop writes its line, and the rest of them are still to come.
use Rattle.trace_text.proofs.Rows.{Writing}
use Rattle.trace_text.proofs.put_rows.Given as goal

abbrev pub invariant-loop-i : goal.invariant-loop-i
invariant-loop-i l = Writing l.initial.out l.at l.labels l.rows l.out l.end l.i
