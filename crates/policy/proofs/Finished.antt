-- A job is finished in a slot exactly where the slot gains, since no value is 0.
-- Assumes nothing.
use mathlib.Core.Path.{◌≡◌, refl, sym, ap, ◌∙◌}
use mathlib.Core.Bool.{Bool, true, false, cond, ◌||◌}
use mathlib.Core.List.{List}
use mathlib.Core.Logic.{⊎_elim}
use mathlib.Core.Option.{Option, none, some}
use Prim.Native.Nat.{ℕ, ◌%◌, ◌<◌}
use native.Mathlib.Omega.{arith}
use borrow.Author.Tests.{lt-ltb, eqb-true}
use lib.Dec.{eqb, ltb}
use lib.ListN.{get_or}
use Rattle.model.specs.Controller.{finished_bit}
use Rattle.model.specs.Limits.{max_tasks}
use Rattle.model.specs.Lists.{any, list_of, one}
use Rattle.model.specs.Plan.{Task, Plan}
use Rattle.model.specs.Slot as model_slot
use Rattle.model.specs.Slot.{Job, task_of, run_first, ready, slot}
use Rattle.policy.specs.View.{cell_number, Tasks, cell_count, slot_cells, task_in, task_at, job_in, jobs_of, Cells, joined_cells, tasks_in, Ruled, Slotted}
use Rattle.policy.specs.declared.Done.{Done}
use Rattle.policy.specs.declared.Rules.{Rules}
use Rattle.policy.proofs.Cells.{task-cases}
use Rattle.policy.proofs.Interruptions.{chosen}
use Rattle.policy.proofs.Keys.{task-number, choice_in}
use Rattle.policy.proofs.NewJobs.{joined-leaves}

module _ (r : Rules) (ruled : Ruled r) (cells : List ℕ) (h : Cells (tasks_in r) cell_count cells) (label : ℕ) (d : Done) (slotted : Slotted r cells label d)
    (P : Plan) (same : P.tasks ≡ tasks_in r) (by : P.policy ≡ r.policy) where
  abbrev ts : Tasks
  ts = tasks_in r

  abbrev js : List Job
  js = jobs_of ts cells

  abbrev work : ℕ
  work = get_or (joined_cells ts cells label) (cell_number d.ran) 0

  -- the value of a job that is there
  valued : 0 < work → 0 < (task_of P.tasks (task_in (cell_number d.ran))).value
  valued some-work =
      let fits = (joined-leaves ts cells label ruled.tasks h refl).cells.work (cell_number d.ran) in
      let is : task_of P.tasks (task_in (cell_number d.ran)) ≡ task_at ts (cell_number d.ran) = ap (λ us. task_of us (task_in (cell_number d.ran))) same ∙ task-number ts (cell_number d.ran) in
      ⊎_elim
      (λ found. omega (arith, found.1.some_value, ap (λ (t : Task). t.value) is))
      (λ missing. absurd (omega (arith, ap (λ (t : Task). t.work) missing)))
      (task-cases ts ruled.tasks ((cell_number d.ran) % max_tasks))

  gains : d.gain ≡ (run_first P.tasks (ready P js label) (choice_in ts (joined_cells ts cells label) (cell_number d.ran))).gain
  unfolding slot
  gains =
      ap (λ (e : model_slot.Done). e.gain) (slotted.rule P same by)
      ∙ ap (λ (c : Option Job). (run_first P.tasks (ready P js label) c).gain) (chosen r ruled cells h label d slotted P same by)

  pub finished_shown : finished_bit P js label ≡ one (ltb 0 d.gain)
  finished_shown =
      ap (λ (c : Option Job). one (any (λ j. eqb j.work 1) (list_of c))) (chosen r ruled cells h label d slotted P same by)
      ∙ go (ltb (cell_number d.ran) slot_cells)
      ∙ ap (λ (n : ℕ). one (ltb 0 n)) (sym gains)
    where
      job : Job
      job = job_in ts (cell_number d.ran) work

      paid : (b : Bool) → eqb work 1 ≡ b → one (b || false) ≡ one (ltb 0 (cond b (task_of P.tasks (task_in (cell_number d.ran))).value 0))
      paid true e = ap one (sym (lt-ltb 0 _ (valued (omega (arith, eqb-true work 1 e)))))
      paid false e = refl

      go : (b : Bool) → one (any (λ j. eqb j.work 1) (list_of (cond b (some job) none))) ≡ one (ltb 0 (run_first P.tasks (ready P js label) (cond b (some job) none)).gain)
      go true = paid (eqb work 1) refl
      go false = refl
