-- The writes before a place are made.
use Rattle.std.proofs.Common.{◌*◌}
use Rattle.controller.proofs.Reached.{Reached}
use Rattle.controller.proofs.run_writes.Given as goal

abbrev pub invariant-loop-i : goal.invariant-loop-i
invariant-loop-i l = Reached l.machine.rules l.machine.next l.writes l.initial.after l.after (2 * l.i)
