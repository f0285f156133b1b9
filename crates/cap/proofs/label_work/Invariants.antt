-- `cap::label_work` meets its contract: each turn adds the work of one task's new job.
-- Assumes nothing.
use mathlib.Core.Path.{◌≡◌}
use Prim.Native.Nat.{◌*◌, ◌≤◌}
use Rattle.model.specs.Lists.{sum}
use Rattle.plan.specs.View.{list_of}
use Rattle.policy.specs.View.{new_work}
use Rattle.cap.proofs.label_work.Given as goal

abbrev pub invariant-loop-i : goal.invariant-loop-i
invariant-loop-i l = (l.work ≡ sum (new_work (list_of l.tasks) l.label) l.i) × (l.work ≤ 255 * l.i)
