-- The loop writes the table from the front.
use Rattle.std.proofs.Common.{◌≡◌, map}
use Rattle.model.specs.Bytes.{overwrite}
use Rattle.model.specs.Lists.{up_from}
use Rattle.plan.specs.View.{list_of}
use Rattle.policy.specs.View.{left_in}
use Rattle.policy.proofs.left_table.Given as goal

abbrev pub invariant-loop-k : goal.invariant-loop-k
invariant-loop-k l = l.left ≡ overwrite l.initial.left 0 (map (left_in (list_of l.tasks)) (up_from 0 l.k))
