-- `cycle::follow` meets its contract: one step after another. Assumes nothing.
use mathlib.Core.Path.{◌≡◌}
use Prim.Native.Nat.{◌*◌, ◌≤◌, ◌<◌}
use lib.ListN.{drop}
use Rattle.model.specs.Edition.{long_reads}
use Rattle.model.specs.Check.{follow}
use Rattle.model.specs.Limits.{max_tasks, max_value, max_states}
use Rattle.model.specs.Masks.{mask_count}
use Rattle.certificate.specs.View.{certificate_of}
use Rattle.policy.specs.View.{cell_count, Cells, tasks_in}
use Rattle.graph.specs.View.{plan_by}
use Rattle.cycle.proofs.Steps.{here}
use Rattle.cycle.proofs.follow.Given as goal

abbrev pub invariant-loop-j : goal.invariant-loop-j
invariant-loop-j l =
    let r = l.machine.rules in
    let P = plan_by r l.machine.next max_states in
    let ss = (certificate_of long_reads l.s l.parts).steps in record {
      cells : Cells (tasks_in r) cell_count l.at.cells;
      state : l.at.state < max_states;
      taken : l.at.taken < mask_count;
      kept : l.kept ≤ l.j * max_value;
      ideal : l.ideal ≤ l.j * (max_tasks * max_value);
      followed : follow P (drop l.j ss) (here (tasks_in r) l.at l.kept l.ideal) ≡ follow P ss (here (tasks_in r) l.initial.at l.initial.kept l.initial.ideal);
    }
