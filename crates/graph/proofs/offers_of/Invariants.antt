-- `graph::offers_of` meets its contract: so far the first i tasks are offered their masks.
use Prim.Native.Nat.{ℕ, ◌<◌}
use mathlib.Core.Path.{◌≡◌}
use lib.ListN.{length, get_or}
use Rattle.model.specs.Limits.{max_tasks}
use Rattle.model.specs.Lists.{bit}
use Rattle.model.specs.Slot.{no_task}
use Rattle.policy.specs.View.{tasks_in}
use Rattle.graph.specs.Offers.{no_offer, OffersTask}
use Rattle.graph.proofs.offers_of.Given as goal

abbrev pub invariant-loop-i : goal.invariant-loop-i
invariant-loop-i l = record {
  size : length l.offers ≡ max_tasks;
  each : (k : ℕ) → k < l.i → OffersTask (get_or (tasks_in l.rules) k no_task) (bit l.label k) (get_or l.offers k no_offer);
}
