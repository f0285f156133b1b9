-- `links::way_up`: before each step neither node has been met.
-- Assumes nothing.
use Prim.Native.Nat.{◌-◌}
use Rattle.model.specs.Limits.{max_nodes}
use Rattle.links.proofs.Climb.{Climbed}
use Rattle.links.proofs.way_up.Given as goal

abbrev pub invariant-loop-at : goal.invariant-loop-at
invariant-loop-at l = Climbed l.m l.u l.v l.at l.j

abbrev pub decreases-loop-at : goal.decreases-loop-at
decreases-loop-at l = max_nodes - l.j
