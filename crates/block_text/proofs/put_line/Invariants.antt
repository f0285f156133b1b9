-- Each turn of the loop writes a byte, and the rest of them are still to come.
use Rattle.block_text.proofs.Ahead.{Ahead}
use Rattle.block_text.proofs.Line.{line_from}
use Rattle.block_text.proofs.put_line.Given as goal

abbrev pub invariant-loop-i : goal.invariant-loop-i
invariant-loop-i l = Ahead l.initial.out l.initial.end (line_from l.bytes 0) l.out l.end (line_from l.bytes l.i)
