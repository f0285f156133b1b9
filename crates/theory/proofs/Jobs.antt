-- The jobs that the slots of a run leave: one of each id, inside its window, with no more work than its task has.
-- Assumes nothing.
use mathlib.Core.Path.{◌≡◌, refl, sym, ◌∙◌, ap, ap₂}
use mathlib.Core.Bool.{Bool, true, false}
use mathlib.Core.List.Memᴰ
use mathlib.Core.List.{List, [], ◌∷◌, ◌++◌, Memᴰ}
use mathlib.Core.Logic.{◌⊎◌, ⊎_elim}
use Prim.Native.Nat.{ℕ, suc, ◌+◌, ◌-◌, ◌/◌, ◌%◌, ◌<◌, ◌≤◌}
use native.Mathlib.Omega.{arith}
use lib.Dec.{eqb}
use lib.ListN.{get_or}
use Rattle.model.specs.Hopeless.{after_choice}
use Rattle.model.specs.Lists.{cons_if}
use Rattle.model.specs.Plan.{Task, Plan}
use Rattle.model.specs.Slot.{Job, JobId, no_task, task_of, new_jobs, id_of, tick, ready, chosen_in, slot, jobs_after}
use Rattle.theory.proofs.Hopeless.{after_id, after_less, of-slot}

-- One job of each id. Each is of a task numbered from 1, at least so many slots of its window have passed, and it has no more work than its
-- task.
pub record Known (ts : List Task) (past : ℕ) (js : List Job) : Type 0 where
  pub one : (i j : Job) → Memᴰ i js → Memᴰ j js → id_of i ≡ id_of j → i ≡ j
  pub numbered : (j : Job) → Memᴰ j js → 0 < j.task
  pub within : (j : Job) → Memᴰ j js → past + j.left ≤ (task_of ts j.task).window
  pub bounded : (j : Job) → Memᴰ j js → j.work ≤ (task_of ts j.task).work

-- the new job of the task with this number, at this place of the list
abbrev new_job : List Task → ℕ → ℕ → Job
new_job ts n at = record { task = n; work = (get_or ts at no_task).work; left = (get_or ts at no_task).window }

-- a new job is given by its task's number
new_job_lem : (ts : List Task) (l i : ℕ) {j : Job} → Memᴰ j (new_jobs ts l i) → (i ≤ j.task) × (j ≡ new_job ts j.task (j.task - i))
new_job_lem [] l i m = absurd (Memᴰ.not-nil m)
new_job_lem (t ∷ ts) l i {j} m = go (eqb (l % 2) 1) (λ n. later (new_job_lem ts (l / 2) (suc i) n)) m
  where
    Is : Type 0
    Is = (i ≤ j.task) × (j ≡ new_job (t ∷ ts) j.task (j.task - i))

    here : j ≡ new_job (t ∷ ts) i 0 → Is
    here e =
        let number : i ≡ j.task = sym (ap (λ (a : Job). a.task) e) in
        let place : 0 ≡ j.task - i = omega (arith, number) in
        (omega (arith, number), e ∙ ap₂ (new_job (t ∷ ts)) number place)

    later : (suc i ≤ j.task) × (j ≡ new_job ts j.task (j.task - suc i)) → Is
    later r =
        let place : suc (j.task - suc i) ≡ j.task - i = omega (arith, r.0) in
        (omega (arith, r.0), r.1 ∙ ap (new_job (t ∷ ts) j.task) place)

    go : (b : Bool) → (Memᴰ j (new_jobs ts (l / 2) (suc i)) → Is) → Memᴰ j (cons_if b (new_job (t ∷ ts) i 0) (new_jobs ts (l / 2) (suc i))) → Is
    go true rest n = ⊎_elim here rest (Memᴰ.cases_cons n)
    go false rest n = rest n

-- it has all of its task's work
pub new_work_lem : (ts : List Task) (l : ℕ) {j : Job} → Memᴰ j (new_jobs ts l 1) → j.work ≡ (task_of ts j.task).work
new_work_lem ts l m = ap (λ (a : Job). a.work) (new_job_lem ts l 1 m).1

-- the id of the same job one slot before
abbrev pub older : JobId → JobId
older i = record { task = i.task; left = suc i.left }

-- a job that still has slots left after a slot
pub tick-older : (x j : Job) → id_of (tick x) ≡ id_of j → 0 < j.left → id_of x ≡ older (id_of j)
tick-older x j e p =
    let left : x.left ≡ suc j.left = omega (arith, p, ap (λ (a : JobId). a.left) e) in
    λ k. record { task = (e k).task; left = left k }

module _ (P : Plan) where
  -- what a slot finds was there, or is new
  pub found-ready : (js : List Job) (l : ℕ) {j : Job} → Memᴰ j (ready P js l) → Memᴰ j js ⊎ Memᴰ j (new_jobs P.tasks l 1)
  unfolding ready
  found-ready js l m = Memᴰ.append_cases js m

  -- new jobs join: their windows begin
  pub ready-known : (js : List Job) (l : ℕ) → Known P.tasks 1 js → Known P.tasks 0 (ready P js l)
  ready-known js l h = record {
    one = λ i j mi mj e.
        ⊎_elim
        (λ a. ⊎_elim (λ b. h.one i j a b e) (λ b. absurd (apart i j a b e)) (found-ready js l mj))
        (λ a. ⊎_elim (λ b. absurd (apart j i b a (sym e))) (λ b. alike i j a b e) (found-ready js l mj))
        (found-ready js l mi);
    numbered = λ j m. ⊎_elim (h.numbered j) (λ n. (new j n).0) (found-ready js l m);
    within = λ j m. ⊎_elim (λ a. omega (arith, h.within j a)) (λ n. omega (arith, whole j n)) (found-ready js l m);
    bounded = λ j m. ⊎_elim (h.bounded j) (λ n. omega (arith, new_work_lem P.tasks l n)) (found-ready js l m);
  }
    where
      New : Job → Type 0
      New j = Memᴰ j (new_jobs P.tasks l 1)

      new : (j : Job) → New j → (1 ≤ j.task) × (j ≡ new_job P.tasks j.task (j.task - 1))
      new j n = new_job_lem P.tasks l 1 n

      whole : (j : Job) → New j → j.left ≡ (task_of P.tasks j.task).window
      whole j n = ap (λ (a : Job). a.left) (new j n).1

      apart : (i j : Job) → Memᴰ i js → New j → id_of i ≡ id_of j → ⊥
      apart i j a n e =
          omega (arith, h.within i a, whole j n, ap (λ (x : JobId). x.left) e, ap (λ (x : JobId). (task_of P.tasks x.task).window) e)

      alike : (i j : Job) → New i → New j → id_of i ≡ id_of j → i ≡ j
      alike i j a b e = (new i a).1 ∙ ap (λ (x : JobId). new_job P.tasks x.task (x.task - 1)) e ∙ sym (new j b).1

  -- what a slot leaves, one slot before
  pub was : (js : List Job) (l : ℕ) {j : Job} → Memᴰ j (slot P js l).jobs →
      (x : Job) × Memᴰ x (ready P js l) × (after_choice (chosen_in P js l) x ≡ j) × (id_of x ≡ older (id_of j))
  was js l {j} m =
      let s = of-slot P js l m in
      (s.0, s.1, s.2, tick-older s.0 j (sym (after_id (chosen_in P js l) s.0) ∙ ap id_of s.2) s.4)

  -- and a slot passes
  pub slot-known : (js : List Job) (l : ℕ) → Known P.tasks 0 (ready P js l) → Known P.tasks 1 (slot P js l).jobs
  slot-known js l h = record {
    one = λ i j mi mj e.
        let x = was js l mi in
        let y = was js l mj in
        sym x.2 ∙ ap (after_choice (chosen_in P js l)) (h.one x.0 y.0 x.1 y.1 (x.3 ∙ ap older e ∙ sym y.3)) ∙ y.2;
    numbered = λ j m. let x = was js l m in omega (arith, h.numbered x.0 x.1, ap (λ (a : JobId). a.task) x.3);
    within = λ j m.
        let x = was js l m in
        omega (arith, h.within x.0 x.1, ap (λ (a : JobId). a.left) x.3, ap (λ (a : JobId). (task_of P.tasks a.task).window) x.3);
    bounded = λ j m.
        let x = was js l m in
        omega (
          arith,
          h.bounded x.0 x.1,
          after_less (chosen_in P js l) x.0,
          ap (λ (a : Job). a.work) x.2,
          ap (λ (a : JobId). (task_of P.tasks a.task).work) x.3,
        );
  }

  -- one label more is one slot more
  pub after-append : (ls : List ℕ) (l : ℕ) (js : List Job) → jobs_after P js (ls ++ (l ∷ [])) ≡ (slot P (jobs_after P js ls) l).jobs
  after-append [] l js = refl
  after-append (k ∷ ls) l js = after-append ls l (slot P js k).jobs

  -- so it is after the slots of any labels
  pub known-after : (ls : List ℕ) (js : List Job) → Known P.tasks 1 js → Known P.tasks 1 (jobs_after P js ls)
  known-after [] js h = h
  known-after (l ∷ ls) js h = known-after ls (slot P js l).jobs (slot-known js l (ready-known js l h))

  -- and at first there is no job
  pub known-none : Known P.tasks 1 []
  known-none = record {
    one = λ i j mi mj e. absurd (Memᴰ.not-nil mi);
    numbered = λ j m. absurd (Memᴰ.not-nil m);
    within = λ j m. absurd (Memᴰ.not-nil m);
    bounded = λ j m. absurd (Memᴰ.not-nil m);
  }
