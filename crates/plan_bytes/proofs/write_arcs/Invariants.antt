-- `plan_bytes::write_arcs` meets its contract: the arcs of the pairs before k are written.
-- Assumes nothing.
use Prim.Native.Nat.{◌+◌, ◌*◌, ◌≤◌}
use Rattle.model.specs.Lists.{flat_map}
use Rattle.model.specs.PlanBytes.{arc_bytes}
use Rattle.plan.specs.View.{arcs_below}
use Rattle.plan_bytes.specs.Sizes.{arc_size}
use Rattle.model.specs.Bytes.{Put}
use Rattle.plan_bytes.proofs.write_arcs.Given as goal

abbrev pub invariant-loop-k : goal.invariant-loop-k
invariant-loop-k l =
    (l.end ≤ l.at + arc_size * l.k) × Put l.initial.out l.out l.at (flat_map arc_bytes (arcs_below l.next l.k)) l.end
