-- Each turn writes its slot, and the rest of the trace is still to come.
use Rattle.std.proofs.Common.{◌≡◌, ℕ, ◌≤◌, List, length}
use Rattle.model.specs.Plan.{Plan}
use Rattle.policy.specs.declared.Rules.{Rules}
use Rattle.policy.specs.View.{cell_number, tasks_in, jobs_of, cell_count, Cells, ran_in}
use Rattle.tracer.proofs.Slots.{Writing}
use Rattle.tracer.proofs.write_slots.Given as goal

-- the rows of the labels before a place are written; in the slot before it a job ran in this cell
pub record Reached (rules : Rules) (labels before now' cells : List ℕ) (ran i : ℕ) : Type 0 where
  pub held : Cells (tasks_in rules) cell_count cells
  pub inside : i ≤ length labels
  pub size : length now' ≡ length before
  pub writing : (P : Plan) → P.tasks ≡ tasks_in rules → P.policy ≡ rules.policy →
      Writing P labels before now' (ran_in (tasks_in rules) ran) (jobs_of (tasks_in rules) cells) i

abbrev pub invariant-loop-slot : goal.invariant-loop-slot
invariant-loop-slot l = Reached l.machine.rules l.labels l.initial.out l.out l.cells (cell_number l.ran) l.slot
