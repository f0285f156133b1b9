-- The label's new jobs join: the cells of the last row.
-- Assumes nothing.
use mathlib.Core.Path.{◌≡◌, refl, sym, ◌∙◌, ap, ap₂, subst}
use mathlib.Core.Bool.{Bool, true, false, cond}
use mathlib.Core.List.{List, [], ◌∷◌, ◌++◌, map}
use Prim.Native.Nat.{ℕ, zero, suc, ◌+◌, ◌-◌, ◌/◌, ◌%◌, ◌^◌, ◌≤◌, ◌<◌}
use native.Mathlib.Nat.{add_comm, div-one, le_of_suc-le-suc, not-suc-le-zero}
use native.Mathlib.Numerals.{add-one}
use native.Mathlib.Omega.{arith}
use borrow.Author.Tests.{lt-ltb, ltb-true, ltb-false}
use lib.Dec.{ltb, eqb}
use lib.ListN.{length, get_or, length-append, get_or-append}
use lib.Pow.{shr-shr}
use Rattle.model.specs.Limits.{max_tasks}
use Rattle.model.specs.Lists.{cons_if, flat_map, up_from, bit}
use Rattle.model.specs.Plan.{Task}
use Rattle.model.specs.Slot.{Job, no_task, new_jobs}
use Rattle.model.proofs.Lists.{flat_map-append, get_or-table, mem-of-up_from, up_from-append, flat_map-same, flat_map-none}
use Rattle.words.proofs.Memory.{get_or_skip}
use Rattle.policy.specs.View.{Tasks, cell_count, slot_cells, task_in, task_at, left_in, jobs_in, jobs_of, new_work, joined_cells, TasksInRange, Cells, Leaves}
use Rattle.policy.proofs.Lists.{flat_map_shift, length-table}
use Rattle.policy.proofs.Cells.{FitCell, leaves-same, jobs_sized, cells_sized, work-within}

-- the new jobs of the task at j, where the tasks are numbered from i
abbrev new_in : Tasks → ℕ → ℕ → ℕ → List Job
new_in ts l i j = cons_if (ltb 0 (new_work ts l j)) (record { task = i + j; work = new_work ts l j; left = (get_or ts j no_task).window }) []

bit-next : (l j : ℕ) → bit l (j + 1) ≡ bit (l / 2) j
bit-next l j = ap (λ n. eqb (n % 2) 1) (ap (λ k. l / 2 ^ k) (add_comm j 1) ∙ sym (shr-shr l 1 j))

new_jobs_lem : (ts : Tasks) (l i m : ℕ) → length ts ≤ m → ((j : ℕ) → j < length ts → 1 ≤ (get_or ts j no_task).work)
    → new_jobs ts l i ≡ flat_map (new_in ts l i) (up_from 0 m)
new_jobs_lem [] l i m h w = sym (flat_map-none (new_in [] l i) (up_from 0 m) (λ j _. none (λ b. record { task = i + j; work = cond b 0 0; left = 0 }) (bit l j)))
  where
    none : (x : (b : Bool) → Job) (b : Bool) → cons_if (ltb 0 (cond b 0 0)) (x b) [] ≡ []
    none x true = refl
    none x false = refl
new_jobs_lem (t ∷ ts) l i zero h w = absurd (not-suc-le-zero h)
new_jobs_lem (t ∷ ts) l i (suc m) h w =
    here (eqb (l % 2) 1)
    (new_jobs_lem ts (l / 2) (suc i) m (le_of_suc-le-suc h) (λ j lt. w (suc j) (omega arith)) ∙ later)
    ∙ ap (λ b. cons_if (ltb 0 (cond b t.work 0)) (record { task = i + 0; work = cond b t.work 0; left = t.window }) [] ++ flat_map (new_in (t ∷ ts) l i) (up_from 1 m))
    (ap (λ n. eqb (n % 2) 1) (sym (div-one l)))
  where
    next : (j : ℕ) → new_in ts (l / 2) (suc i) j ≡ new_in (t ∷ ts) l i (j + 1)
    next j =
        let number : suc i + j ≡ i + (j + 1) = omega arith in
        let task : get_or ts j no_task ≡ get_or (t ∷ ts) (j + 1) no_task = ap (λ n. get_or (t ∷ ts) n no_task) (sym (add-one j)) in
        let work : new_work ts (l / 2) j ≡ new_work (t ∷ ts) l (j + 1) = ap₂ (λ (b : Bool) (u : Task). cond b u.work 0) (sym (bit-next l j)) task in
        λ k. cons_if (ltb 0 (work k)) (record { task = number k; work = work k; left = (task k).window }) []

    later : flat_map (new_in ts (l / 2) (suc i)) (up_from 0 m) ≡ flat_map (new_in (t ∷ ts) l i) (up_from 1 m)
    later =
        flat_map-same (new_in ts (l / 2) (suc i)) (λ j. new_in (t ∷ ts) l i (j + 1)) (up_from 0 m) (λ j _. next j)
        ∙ sym (flat_map_shift (new_in (t ∷ ts) l i) 0 1 m)

    here : {r s : List Job} (b : Bool) → r ≡ s →
        cons_if b (record { task = i; work = t.work; left = t.window }) r
        ≡ cons_if (ltb 0 (cond b t.work 0)) (record { task = i + 0; work = cond b t.work 0; left = t.window }) [] ++ s
    here true e =
        rw (lt-ltb 0 t.work (w 0 (omega arith)))
        (let number : i ≡ i + 0 = omega arith in λ k. record { task = number k; work = t.work; left = t.window } ∷ e k)
    here false e = e

module _ (ts : Tasks) (cells : List ℕ) (l : ℕ) (r : TasksInRange ts) (h : Cells ts cell_count cells) where
  -- the cells of the jobs that were there, and of the new ones
  old_cell : (k : ℕ) → k < cell_count → get_or (joined_cells ts cells l) k 0 ≡ get_or cells k 0
  unfolding joined_cells
  old_cell k lt = get_or-append cells (map (new_work ts l) (up_from 0 max_tasks)) 0 k (omega (arith, h.size))

  new_cell : (j : ℕ) → j < max_tasks → get_or (joined_cells ts cells l) (j + cell_count) 0 ≡ new_work ts l j
  unfolding joined_cells
  new_cell j lt =
      ap (λ k. get_or (joined_cells ts cells l) k 0) (add_comm j cell_count)
      ∙ get_or_skip cells (map (new_work ts l) (up_from 0 max_tasks)) cell_count j h.size
      ∙ get_or-table (new_work ts l) max_tasks j 0 lt

  joined-size : length (joined_cells ts cells l) ≡ slot_cells
  unfolding joined_cells
  joined-size = omega (arith, length-append cells (map (new_work ts l) (up_from 0 max_tasks)), h.size, length-table (new_work ts l) max_tasks)

  last_row : (j : ℕ) → j < max_tasks → jobs_in ts (j + cell_count) (get_or (joined_cells ts cells l) (j + cell_count) 0) ≡ new_in ts l 1 j
  last_row j lt =
      let work : get_or (joined_cells ts cells l) (j + cell_count) 0 ≡ new_work ts l j = new_cell j lt in
      let number : task_in (j + cell_count) ≡ 1 + j = omega arith in
      let place : (j + cell_count) % max_tasks ≡ j = omega arith in
      let left : left_in ts (j + cell_count) ≡ (get_or ts j no_task).window = omega (arith, ap (λ n. (get_or ts n no_task).window) place) in
      λ k. cons_if (ltb 0 (work k)) (record { task = number k; work = work k; left = left k }) []

  join_jobs : jobs_of ts (joined_cells ts cells l) ≡ jobs_of ts cells ++ new_jobs ts l 1
  join_jobs =
      jobs_sized ts slot_cells (joined_cells ts cells l) joined-size
      ∙ ap (flat_map in_cell) (up_from-append 0 cell_count max_tasks)
      ∙ flat_map-append in_cell (up_from 0 cell_count) (up_from cell_count max_tasks)
      ∙ ap₂ (λ a b. a ++ b)
      (flat_map-same in_cell (λ k. jobs_in ts k (get_or cells k 0)) (up_from 0 cell_count)
      (λ k m. ap (jobs_in ts k) (old_cell k (omega (arith, mem-of-up_from 0 cell_count m))))
      ∙ sym (jobs_sized ts cell_count cells h.size))
      (flat_map_shift in_cell 0 cell_count max_tasks
      ∙ flat_map-same (λ j. in_cell (j + cell_count)) (new_in ts l 1) (up_from 0 max_tasks) (λ j m. last_row j (omega (arith, mem-of-up_from 0 max_tasks m)))
      ∙ sym (new_jobs_lem ts l 1 max_tasks r.count (λ j lt. (r.each j lt).work)))
    where
      in_cell : ℕ → List Job
      in_cell k = jobs_in ts k (get_or (joined_cells ts cells l) k 0)

  join_cells : Cells ts slot_cells (joined_cells ts cells l)
  join_cells = cells_sized ts slot_cells (joined_cells ts cells l) joined-size (λ k lt. go k lt (ltb k cell_count) refl)
    where
      new : (j : ℕ) → j < max_tasks → (b : Bool) → FitCell ts (j + cell_count) (cond b (get_or ts j no_task).work 0)
      new j lt true =
          let place : j ≡ (j + cell_count) % max_tasks = omega arith in
          let same : (get_or ts j no_task).work ≡ (task_at ts (j + cell_count)).work = ap (λ n. (get_or ts n no_task).work) place in
          (omega arith, λ p. omega (arith, work-within ts r ((j + cell_count) % max_tasks)))
      new j lt false = (omega arith, λ p. absurd (omega arith))

      go : (k : ℕ) → k < slot_cells → (b : Bool) → ltb k cell_count ≡ b → FitCell ts k (get_or (joined_cells ts cells l) k 0)
      go k lt true e = subst (FitCell ts k) (sym (old_cell k (ltb-true k cell_count e))) (h.work k, h.left k)
      go k lt false e =
          let low : k - cell_count < max_tasks = omega arith in
          let place : k - cell_count + cell_count ≡ k = omega (arith, ltb-false k cell_count e) in
          subst (λ n. FitCell ts n (get_or (joined_cells ts cells l) n 0)) place
          (subst (FitCell ts (k - cell_count + cell_count)) (sym (new_cell (k - cell_count) low)) (new (k - cell_count) low (bit l (k - cell_count))))

  pub joined-leaves : {after : List ℕ} → after ≡ joined_cells ts cells l → Leaves ts (jobs_of ts cells ++ new_jobs ts l 1) slot_cells after
  joined-leaves is = leaves-same is join_jobs join_cells
