-- The loop writes the new jobs behind the cells.
use Rattle.std.proofs.Common.{◌≡◌, map}
use Rattle.model.specs.Bytes.{overwrite}
use Rattle.model.specs.Lists.{up_from}
use Rattle.plan.specs.View.{list_of}
use Rattle.policy.specs.View.{cell_count, new_work}
use Rattle.policy.proofs.join.Given as goal

abbrev pub invariant-loop-i : goal.invariant-loop-i
invariant-loop-i l = l.joined ≡ overwrite l.initial.joined cell_count (map (new_work (list_of l.tasks) l.label) (up_from 0 l.i))
