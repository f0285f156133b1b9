-- `check_cap::feed_parts` meets its contract: the parts so far are one list of labels, and the next one goes behind it.
-- Assumes nothing.
use mathlib.Core.List.{List}
use Prim.Native.Nat.{ℕ, ◌-◌, ◌*◌}
use Rattle.cap.specs.View.{Watching, Feeds}
use Rattle.cap.specs.declared.Cap.{Cap}
use Rattle.cap.specs.declared.Watch.{Watch}
use Rattle.check_cap.specs.Commands.{part_bytes, most_parts}
use Rattle.check_cap.proofs.feed_parts.Given as goal

-- after some parts, with so many still to come
pub record Through (c : Cap) (before after : Watch) (parts : ℕ) : Type 0 where
  pub labels : List ℕ
  pub fed : Feeds c before labels after
  pub goes : Watching c after (parts * part_bytes)

abbrev pub invariant-loop-part : goal.invariant-loop-part
invariant-loop-part l = Through l.cap l.initial.after l.after (most_parts - l._part)
