-- The loop writes the cells from the front.
use Rattle.std.proofs.Common.{◌≡◌, map}
use Rattle.model.specs.Bytes.{overwrite}
use Rattle.model.specs.Lists.{up_from}
use Rattle.policy.specs.View.{held_in}
use Rattle.policy.proofs.held_cells.Given as goal

abbrev pub invariant-loop-k : goal.invariant-loop-k
invariant-loop-k l = l.held ≡ overwrite l.initial.held 0 (map (held_in l.cells l.hold) (up_from 0 l.k))
