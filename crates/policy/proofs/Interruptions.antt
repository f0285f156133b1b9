-- The job that a slot displaces, by cells.
-- Assumes nothing.
use mathlib.Core.Path.{◌≡◌, refl, sym, ◌∙◌, ap, subst}
use mathlib.Core.Bool.{Bool, true, false, cond, not, ◌&&◌, false≢true}
use mathlib.Core.List.Memᴰ
use mathlib.Core.List.{List, [], ◌∷◌, ◌++◌}
use mathlib.Core.Logic.{◌↔◌}
use mathlib.Core.Option.{none, some}
use Prim.Native.Nat.{ℕ, ◌+◌, ◌-◌, ◌%◌, ◌≤◌, ◌<◌}
use native.Mathlib.Omega.{arith}
use borrow.Author.Tests.{lt-ltb, le-ltb, ltb-true, ltb-false, not-true}
use lib.Dec.{ltb, eqb}
use lib.ListN.{get_or}
use Rattle.model.specs.Limits.{max_tasks}
use Rattle.model.specs.Lists.{any, list_of}
use Rattle.model.specs.Plan.{Plan}
use Rattle.model.specs.Slot as model_slot
use Rattle.model.specs.Slot.{JobId, id_of, has_id, unfinished, new_jobs, key, first, ready, chosen_in, slot, displaced, displaced_in}
use Rattle.model.specs.Trace.{task_or0, row_of}
use Rattle.model.proofs.Displaced.{has_id_lem, found-is}
use Rattle.model.proofs.Plan.{both}
use Rattle.model.proofs.Tests.{same_decided, same_number, any_some}
use Rattle.policy.specs.declared.Rules.{Rules}
use Rattle.policy.specs.declared.Done.{Done}
use Rattle.policy.specs.View.{cell_number, Tasks, cell_count, slot_cells, task_in, left_in, job_in, jobs_of, TasksInRange, Cells, joined_cells, task_number, displaced_task, tasks_in, Ruled, ran_in, Slotted}
use Rattle.policy.proofs.Canonical.{job_cell, cell_job}
use Rattle.policy.proofs.Cells.{window-low, left-falls, one_cell}
use Rattle.policy.proofs.Keys.{choice_in}
use Rattle.policy.proofs.Held.{chosen_cell}
use Rattle.policy.proofs.NewJobs.{joined-leaves}

module _ (ts : Tasks) (r : TasksInRange ts) (cells : List ℕ) (h : Cells ts cell_count cells) (ran : ℕ) (lt : ran < slot_cells) where
  -- the job that ran in the slot before, and the cell where it is now
  abbrev it : JobId
  it = record { task = task_in ran; left = left_in ts ran - 1 }

  abbrev up : ℕ
  up = ran - max_tasks

  -- it is still there
  abbrev Waits : Type 0
  Waits = (max_tasks ≤ ran) × (0 < get_or cells up 0)

  up-task : max_tasks ≤ ran → task_in ran ≡ task_in up
  up-task le = omega arith

  up_left : max_tasks ≤ ran → left_in ts ran - 1 ≡ left_in ts up
  up_left le =
      let row : up + max_tasks ≡ ran = omega arith in
      ap (λ k. left_in ts k - 1) (sym row) ∙ left-falls ts up (omega arith)

  -- a job with slots left that is it stands there, and no other
  is_up : (k w : ℕ) → k < slot_cells → 0 < left_in ts k → it ≡ id_of (job_in ts k w) → (max_tasks ≤ ran) × (k ≡ up)
  is_up k w hk p e =
      let left : left_in ts ran - 1 ≡ left_in ts k = ap (λ (i : JobId). i.left) e in
      let low : max_tasks ≤ ran = omega (arith, left, window-low ts r (ran % max_tasks)) in
      (low, one_cell ts k up hk (omega arith) p (ap (λ (i : JobId). i.task) (sym e) ∙ up-task low) (sym left ∙ up_left low))

  of-up : (w : ℕ) → max_tasks ≤ ran → it ≡ id_of (job_in ts up w)
  of-up w le = λ i. record { task = up-task le i; left = up_left le i }

  -- the definition's test of it
  waits : (any (λ j. has_id it j && unfinished j) (jobs_of ts cells) ≡ true) ↔ Waits
  waits = (there, back)
    where
      there : any (λ j. has_id it j && unfinished j) (jobs_of ts cells) ≡ true → Waits
      there e =
          let f = (found-is it (jobs_of ts cells)).0 e in
          let c = job_cell ts cells cell_count h.size f.0 f.1 in
          let k = is_up c.0 (get_or cells c.0 0) (omega (arith, c.1)) (h.left c.0 c.2) ((has_id_lem it f.0).0 f.2 ∙ ap id_of c.3) in
          (k.0, subst (λ i. 0 < get_or cells i 0) k.1 c.2)

      back : Waits → any (λ j. has_id it j && unfinished j) (jobs_of ts cells) ≡ true
      back w =
          let j = job_in ts up (get_or cells up 0) in
          (found-is it (jobs_of ts cells)).1
          (j, cell_job ts cells cell_count h.size up (omega arith) w.1, (has_id_lem it j).1 (of-up (get_or cells up 0) w.0), w.1)

  -- and the code's
  tested : ((not (ltb ran max_tasks) && ltb 0 (get_or cells up 0)) ≡ true) ↔ Waits
  tested = (there, λ w. rw (le-ltb ran max_tasks w.0) (lt-ltb 0 (get_or cells up 0) w.1))
    where
      there : (not (ltb ran max_tasks) && ltb 0 (get_or cells up 0)) ≡ true → Waits
      there e =
          let two = both (not (ltb ran max_tasks)) (ltb 0 (get_or cells up 0)) e in
          (ltb-false ran max_tasks (not-true (ltb ran max_tasks) two.0), ltb-true 0 (get_or cells up 0) two.1)

  module _ (ready : List ℕ) (at : ℕ) where
    -- where it waits, it runs on exactly if its cell is the one in which a job runs
    runs_on : Waits → any (has_id it) (list_of (choice_in ts ready at)) ≡ eqb up at
    runs_on p = same_decided {X = up ≡ at} (there (ltb at slot_cells) refl, back) (same_number up at)
      where
        work : ℕ
        work = get_or ready at 0

        there : (b : Bool) → ltb at slot_cells ≡ b → any (has_id it) (list_of (cond b (some (job_in ts at work)) none)) ≡ true → up ≡ at
        there true q e =
            let f = (any_some (has_id it) (job_in ts at work ∷ [])).0 e in
            let is : it ≡ id_of (job_in ts at work) = (has_id_lem it f.0).0 f.2 ∙ ap id_of (Memᴰ.eq_of_singleton f.1) in
            sym (is_up at work (ltb-true at slot_cells q) (omega (arith, ap (λ (i : JobId). i.left) is, up_left p.0, h.left up p.1)) is).1
        there false q e = absurd (false≢true e)

        back : up ≡ at → any (has_id it) (list_of (choice_in ts ready at)) ≡ true
        back e =
            let is : it ≡ id_of (job_in ts at work) = subst (λ k. it ≡ id_of (job_in ts k work)) e (of-up work p.0) in
            rw (lt-ltb at slot_cells (omega (arith, e)))
            ((any_some (has_id it) (job_in ts at work ∷ [])).1 (job_in ts at work, Memᴰ.head refl, (has_id_lem it (job_in ts at work)).1 is))

    -- the displaced job's task, by the tests on cells
    by_cells : task_or0 (displaced (some it) (jobs_of ts cells) (choice_in ts ready at)) ≡ cond (not (ltb ran max_tasks) && ltb 0 (get_or cells up 0) && not (eqb up at)) (task_in up) 0
    by_cells =
        ap (λ b. task_or0 (cond (b && not (any (has_id it) (list_of (choice_in ts ready at)))) (some it) none)) (same_decided waits tested)
        ∙ go (not (ltb ran max_tasks) && ltb 0 (get_or cells up 0)) (eqb up at) refl refl
      where
        go : (b d : Bool) → (not (ltb ran max_tasks) && ltb 0 (get_or cells up 0)) ≡ b → eqb up at ≡ d →
            task_or0 (cond (b && not (any (has_id it) (list_of (choice_in ts ready at)))) (some it) none) ≡ cond (b && not d) (task_in up) 0
        go true true p q = rw (runs_on (tested.0 p), q)
        go true false p q = rw (runs_on (tested.0 p), q) (up-task (tested.0 p).0)
        go false d p q = refl

-- whatever cell ran
displaced-task : (ts : Tasks) → TasksInRange ts → (cells : List ℕ) → Cells ts cell_count cells → (ran : ℕ) (ready : List ℕ) (at : ℕ) →
    task_or0 (displaced (ran_in ts ran) (jobs_of ts cells) (choice_in ts ready at)) ≡ displaced_task cells ran at
unfolding displaced_task
displaced-task ts r cells h ran ready at = go (ltb ran slot_cells) refl
  where
    go : (b : Bool) → ltb ran slot_cells ≡ b →
        task_or0 (displaced (cond b (some (record { task = task_in ran; left = left_in ts ran - 1 })) none) (jobs_of ts cells) (choice_in ts ready at))
        ≡ cond (b && not (ltb ran max_tasks) && ltb 0 (get_or cells (ran - max_tasks) 0) && not (eqb (ran - max_tasks) at)) (task_in (ran - max_tasks)) 0
    go true e = by_cells ts r cells h ran (ltb-true ran slot_cells e) ready at
    go false e = refl

-- and the task that ran is that of its cell
ran-task : (ts : Tasks) (k : ℕ) → task_or0 (ran_in ts k) ≡ task_number k
ran-task ts k = go (ltb k slot_cells)
  where
    go : (b : Bool) → task_or0 (cond b (some (record { task = task_in k; left = left_in ts k - 1 })) none) ≡ cond b (task_in k) 0
    go true = refl
    go false = refl

-- what a trace shows of a slot, by its cells
module _ (r : Rules) (ruled : Ruled r) (cells : List ℕ) (h : Cells (tasks_in r) cell_count cells) (label : ℕ) (d : Done) (slotted : Slotted r cells label d)
    (P : Plan) (same : P.tasks ≡ tasks_in r) (by : P.policy ≡ r.policy) where
  abbrev ts : Tasks
  ts = tasks_in r

  abbrev joined : List ℕ
  joined = joined_cells ts cells label

  -- the job that is chosen, and the row
  pub chosen : chosen_in P (jobs_of ts cells) label ≡ choice_in ts joined (cell_number d.ran)
  unfolding ready
  chosen =
      let entered = joined-leaves ts cells label ruled.tasks h refl in
      (λ i. first (key (same i) (by i)) (jobs_of ts cells ++ new_jobs (same i) label 1))
      ∙ ap (first (key ts r.policy)) (sym entered.jobs)
      ∙ sym (chosen_cell ts r.hold ruled.hold joined entered.cells r.policy ruled.tasks r.left ruled.left slotted.ran).choice

  pub row_shown : (ran : ℕ) → row_of P (ran_in ts ran) (jobs_of ts cells) label ≡ record { ran = task_number (cell_number d.ran); gain = d.gain; cut = displaced_task cells ran (cell_number d.ran) }
  row_shown ran = λ i. record { ran = task i; gain = (sym (slotted.rule P same by) i).gain; cut = cut i }
    where
      task : task_or0 (slot P (jobs_of ts cells) label).ran ≡ task_number (cell_number d.ran)
      task = ap (λ (e : model_slot.Done). task_or0 e.ran) (sym (slotted.rule P same by)) ∙ ran-task ts (cell_number d.ran)

      cut : task_or0 (displaced_in P (ran_in ts ran) (jobs_of ts cells) label) ≡ displaced_task cells ran (cell_number d.ran)
      cut = ap (λ c. task_or0 (displaced (ran_in ts ran) (jobs_of ts cells) c)) chosen ∙ displaced-task ts ruled.tasks cells h ran joined (cell_number d.ran)
