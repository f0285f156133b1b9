-- `cap::label_works` meets its contract: the places so far have their labels' work.
-- Assumes nothing.
use mathlib.Core.Path.{◌≡◌}
use Prim.Native.Nat.{ℕ, ◌<◌}
use lib.ListN.{length, get_or}
use Rattle.model.specs.Cap.{label_work}
use Rattle.plan.specs.View.{label_count, list_of}
use Rattle.cap.proofs.label_works.Given as goal

abbrev pub invariant-loop-l : goal.invariant-loop-l
invariant-loop-l l = (length l.works ≡ label_count) × ((k : ℕ) → k < l.l → get_or l.works k 0 ≡ label_work (list_of l.tasks) k)
