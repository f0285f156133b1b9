-- Each turn of the loop makes one write and puts its line, and the rest are still to come.
use Rattle.std.proofs.Common.{◌*◌}
use Rattle.block_text.proofs.Writing.{Writing}
use Rattle.block_text.proofs.put_lines.Given as goal

abbrev pub invariant-loop-i : goal.invariant-loop-i
invariant-loop-i l = Writing l.machine.rules l.machine.next l.writes l.initial.after l.initial.out l.out l.after l.end (2 * l.i)
