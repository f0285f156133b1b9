-- `graph::note_task`, which calls itself, meets its contract: so far the outcomes without a mask for the task and those with the masks
-- listed before `at` are noted, and the list is as it was. The measure is how many tasks are left.
use Prim.Native.Nat.{◌+◌, ◌-◌}
use Rattle.graph.specs.Label.{wanted_in}
use Rattle.graph.specs.Outcomes.{list_place, Noting, Keeps}
use Rattle.graph.proofs.Choices.{so_far}
use Rattle.graph.proofs.+note_task.Given as goal

abbrev pub decreases-note_task : goal.decreases-note_task
decreases-note_task l = l.offers.now.count - l.task

abbrev pub invariant-loop-at : goal.invariant-loop-at
invariant-loop-at l =
    Noting (wanted_in l.offers.wanted) (so_far l.offers l.task l.pattern l.gain l.masks (l.at - l.from)) (list_place l.task) l.fn.notes l.count l.notes l.known
    × Keeps (list_place (l.task + 1)) l.initial.notes l.notes
