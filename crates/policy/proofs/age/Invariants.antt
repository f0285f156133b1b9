-- The loop writes the cells from the front.
use Rattle.std.proofs.Common.{◌≡◌, map}
use Rattle.model.specs.Bytes.{overwrite}
use Rattle.model.specs.Limits.{max_tasks}
use Rattle.model.specs.Lists.{up_from}
use Rattle.policy.specs.View.{staying_in}
use Rattle.policy.proofs.age.Given as goal

abbrev pub invariant-loop-k : goal.invariant-loop-k
invariant-loop-k l = l.older ≡ overwrite l.initial.older 0 (map (staying_in l.cells l.left) (up_from max_tasks l.k))
