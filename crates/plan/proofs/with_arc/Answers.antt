-- `plan::with_arc` meets its contract: the table's arcs with this one at their end are the definition's.
-- Assumes nothing.
use native.Mathlib.Omega.{arith}
use Rattle.plan.proofs.Commands.{arc-to, arc-place, arc-read}
use Rattle.plan.proofs.with_arc.Goals as goal

pub overflow_cast-next : goal.overflow_cast-next
overflow_cast-next c = omega (arith, arc-to _ _ _ _ _ c.requires)

pub overflow_add-next : goal.overflow_add-next
overflow_add-next c = omega (arith, arc-to _ _ _ _ _ c.requires)

pub bounds-next-at : goal.bounds-next-at
bounds-next-at c = omega (arith, c.pair-at.ensures, arc-place _ _ _ _ _ c.requires)

pub returns : goal.returns
returns c = rw c.pair-at.ensures (arc-read _ _ _ _ _ c.requires)
