-- The slot rule from its steps on cells.
-- Assumes nothing.
use mathlib.Core.Path.{◌≡◌, refl, sym, ◌∙◌, ap}
use mathlib.Core.Bool.{Bool, true, false, cond}
use mathlib.Core.List.{List, [], ◌∷◌, ◌++◌, map}
use mathlib.Core.Option.{none, some}
use Prim.Native.Nat.{ℕ, ◌<◌}
use native.Mathlib.Omega.{arith}
use borrow.Author.Tests.{lt-ltb, le-ltb}
use lib.Dec.{eqb}
use lib.ListN.{get_or}
use Rattle.model.specs.Lists.{cons_if, keep}
use Rattle.model.specs.Plan.{Task, Plan}
use Rattle.model.specs.Slot.{Job, Done, id_of, new_jobs, key, first, worked, tick, unfinished, stays, run_first, ready, slot, task_of}
use Rattle.policy.specs.View.{Tasks, slot_cells, task_in, task_at, job_in, jobs_of, ran_in}
use Rattle.policy.proofs.Keys.{task-number, choice_in}

-- a job without work goes at the slot's end, so it may go before it
stays-works : (js : List Job) → keep stays (map tick (keep unfinished js)) ≡ keep stays (map tick js)
stays-works [] = refl
stays-works (j ∷ js) = go (unfinished j) refl (stays-works js)
  where
    go : (b : Bool) → unfinished j ≡ b → keep stays (map tick (keep unfinished js)) ≡ keep stays (map tick js)
        → keep stays (map tick (cons_if b j (keep unfinished js))) ≡ keep stays (map tick (j ∷ js))
    go true e h = ap (cons_if (stays (tick j)) (tick j)) h
    go false e h = rw e h

module _ (P : Plan) (ts : Tasks) (policy : ℕ) (same : P.tasks ≡ ts) (by : P.policy ≡ policy) (js : List Job) (l : ℕ) (cells : List ℕ)
    (entered : jobs_of ts cells ≡ js ++ new_jobs ts l 1) where
  -- the rule from the cells that step 1 leaves
  slot-ready : slot P js l ≡ run_first ts (jobs_of ts cells) (first (key ts policy) (jobs_of ts cells))
  unfolding slot ready
  slot-ready =
      (λ i. run_first (same i) (js ++ new_jobs (same i) l 1) (first (key (same i) (by i)) (js ++ new_jobs (same i) l 1)))
      ∙ ap (λ r. run_first ts r (first (key ts policy) r)) (sym entered)

  pub slot_idle : (at : ℕ) → at ≡ slot_cells → choice_in ts cells at ≡ first (key ts policy) (jobs_of ts cells)
      → (older : List ℕ) → jobs_of ts older ≡ keep stays (map tick (jobs_of ts cells)) → ◌≡◌ {A = Done} (record { jobs = jobs_of ts older; ran = none; gain = 0 }) (slot P js l)
  slot_idle at e choice older end =
      (λ i. record { jobs = end i; ran = none; gain = 0 })
      ∙ ap (run_first ts (jobs_of ts cells)) (rw (le-ltb at slot_cells (omega arith)) at choice)
      ∙ sym slot-ready

  module _ (at : ℕ) (lt : at < slot_cells) (choice : choice_in ts cells at ≡ first (key ts policy) (jobs_of ts cells)) (after older : List ℕ)
      (runs : jobs_of ts after ≡ keep unfinished (map (worked (job_in ts at (get_or cells at 0))) (jobs_of ts cells)))
      (end : jobs_of ts older ≡ keep stays (map tick (jobs_of ts after))) (gain : ℕ)
      (gained : gain ≡ cond (eqb (get_or cells at 0) 1) (task_at ts at).value 0) where
    pub slot-ran : ◌≡◌ {A = Done} (record { jobs = jobs_of ts older; ran = ran_in ts at; gain = gain }) (slot P js l)
    slot-ran =
        (λ i. record { jobs = left i; ran = job i; gain = value i })
        ∙ ap (run_first ts (jobs_of ts cells)) (rw (lt-ltb at slot_cells lt) at choice)
        ∙ sym slot-ready
      where
        left : jobs_of ts older ≡ keep stays (map tick (map (worked (job_in ts at (get_or cells at 0))) (jobs_of ts cells)))
        left = end ∙ ap (λ r. keep stays (map tick r)) runs ∙ stays-works (map (worked (job_in ts at (get_or cells at 0))) (jobs_of ts cells))

        job : ran_in ts at ≡ some (id_of (tick (job_in ts at (get_or cells at 0))))
        job = rw (lt-ltb at slot_cells lt)

        value : gain ≡ cond (eqb (get_or cells at 0) 1) (task_of ts (task_in at)).value 0
        value = gained ∙ ap (λ (t : Task). cond (eqb (get_or cells at 0) 1) t.value 0) (sym (task-number ts at))
