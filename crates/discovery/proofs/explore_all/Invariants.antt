-- `discovery::explore_all` meets its contract: the rows one after another. Assumes nothing.
use Prim.Native.Nat.{◌-◌, ◌≤◌}
use Rattle.std.specs.Prelude.{Some}
use Rattle.model.specs.Limits.{max_nodes}
use Rattle.model.specs.Plan.{Plan}
use Rattle.theory.proofs.Nodes.{explored}
use Rattle.policy.specs.View.{tasks_in}
use Rattle.graph.specs.Outcomes.{NotesFree}
use Rattle.graph.specs.View.{Planned}
use Rattle.discovery.specs.Discovery.{Known}
use Rattle.discovery.proofs.explore_all.Given as goal

abbrev pub invariant-loop-k : goal.invariant-loop-k
invariant-loop-k l = record {
  done : l.k ≤ max_nodes;
  few : l.known ≤ max_nodes;
  known : (P : Plan) → Planned P l.machine.rules l.machine.next → Known (tasks_in l.machine.rules) (explored P l.k) l.initial.m l.m (Some l.known);
  notes_free : NotesFree l.initial.notes l.notes;
}

abbrev pub decreases-loop-k : goal.decreases-loop-k
decreases-loop-k l = max_nodes - l.k
