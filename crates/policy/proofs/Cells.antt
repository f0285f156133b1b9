-- The slot rule's steps, cell by cell.
-- Assumes nothing.
use mathlib.Core.Path.{◌≡◌, refl, sym, ◌∙◌, ap, subst}
use mathlib.Core.Bool.{Bool, true, false, cond, ◌&&◌, and-false}
use mathlib.Core.List.{List, [], ◌∷◌, ◌++◌, map}
use mathlib.Core.Logic.{⊎_elim, ◌⊎◌, inl, inr}
use Prim.Native.Nat.{ℕ, zero, suc, ◌+◌, ◌-◌, ◌%◌, ◌≤◌, ◌<◌}
use native.Mathlib.Omega.{arith}
use borrow.Author.Tests.{lt-ltb, le-ltb, ltb-true, ltb-false, eq-eqb, eqb-true, eqb-false}
use lib.Dec.{ltb, eqb}
use lib.ListN.{length, get_or, length-set, replicate, length-replicate, get_or-replicate, get_or-eq_default}
use lib.Seq.{get_or-set_same, get_or-set_other}
use Rattle.model.specs.Limits.{max_tasks, max_window}
use Rattle.model.specs.Lists.{cons_if, keep, flat_map, up_from}
use Rattle.model.specs.Plan.{Task}
use Rattle.model.specs.Slot.{Job, no_task, worked, tick, unfinished, stays}
use Rattle.model.proofs.Lists.{flat_map-append, get_or-table, mem-of-up_from, up_from-append, flat_map-same, flat_map-none}
use Rattle.policy.specs.View.{Tasks, cell_count, slot_cells, task_in, task_at, left_in, left_table, job_in, jobs_in, jobs_of, InRange, TasksInRange, Cells, Leaves, worked_in, staying_in, aged}
use Rattle.policy.proofs.Lists.{keep-flat_map, map-flat_map, flat_map_shift, map_shift, length-table}

-- ---- ranges

-- a task is there and in range, or has no work and no window
pub task-cases : (ts : Tasks) → TasksInRange ts → (i : ℕ) → ((i < length ts) × InRange (get_or ts i no_task)) ⊎ (get_or ts i no_task ≡ no_task)
task-cases ts r i = go (ltb i (length ts)) refl
  where
    go : (b : Bool) → ltb i (length ts) ≡ b → ((i < length ts) × InRange (get_or ts i no_task)) ⊎ (get_or ts i no_task ≡ no_task)
    go true e = inl (ltb-true _ _ e, r.each i (ltb-true _ _ e))
    go false e = inr (get_or-eq_default ts no_task (ltb-false _ _ e))

pub window-low : (ts : Tasks) → TasksInRange ts → (i : ℕ) → (get_or ts i no_task).window ≤ max_window
window-low ts r i = ⊎_elim (λ h. h.1.window) (λ e. omega (arith, ap (λ (t : Task). t.window) e)) (task-cases ts r i)

pub work-within : (ts : Tasks) → TasksInRange ts → (i : ℕ) → (get_or ts i no_task).work ≤ (get_or ts i no_task).window
work-within ts r i =
    ⊎_elim (λ h. h.1.within) (λ e. omega (arith, ap (λ (t : Task). t.work) e)) (task-cases ts r i)

-- ---- the view

pub jobs_sized : (ts : Tasks) (n : ℕ) (cells : List ℕ) → length cells ≡ n → jobs_of ts cells ≡ flat_map (λ k. jobs_in ts k (get_or cells k 0)) (up_from 0 n)
unfolding jobs_of
jobs_sized ts n cells e = ap (λ m. flat_map (λ k. jobs_in ts k (get_or cells k 0)) (up_from 0 m)) e

pub jobs-table : (ts : Tasks) (f : ℕ → ℕ) (n : ℕ) → jobs_of ts (map f (up_from 0 n)) ≡ flat_map (λ k. jobs_in ts k (f k)) (up_from 0 n)
jobs-table ts f n =
    jobs_sized ts n (map f (up_from 0 n)) (length-table f n)
    ∙ flat_map-same (λ k. jobs_in ts k (get_or (map f (up_from 0 n)) k 0)) (λ k. jobs_in ts k (f k)) (up_from 0 n)
    (λ k m. ap (jobs_in ts k) (get_or-table f n k 0 (omega (arith, mem-of-up_from 0 n m))))

pub leaves-same : {ts : Tasks} {js : List Job} {n : ℕ} {after cells : List ℕ} → after ≡ cells → jobs_of ts cells ≡ js → Cells ts n cells → Leaves ts js n after
leaves-same {ts} {js} {n} is jobs fit = subst (Leaves ts js n) (sym is) (record { jobs = jobs; cells = fit })

-- what holds of each cell that a node can hold, and the cells from it
abbrev pub FitCell : Tasks → ℕ → ℕ → Type 0
FitCell ts k w = (w ≤ (task_at ts k).work) × (0 < w → 0 < left_in ts k)

pub cells_sized : (ts : Tasks) (n : ℕ) (cells : List ℕ) → length cells ≡ n → ((k : ℕ) → k < n → FitCell ts k (get_or cells k 0)) → Cells ts n cells
cells_sized ts n cells e h = record { size = e; work = λ k. (both k).0; left = λ k. (both k).1 }
  where
    go : (k : ℕ) (b : Bool) → ltb k n ≡ b → FitCell ts k (get_or cells k 0)
    go k true lt = h k (ltb-true k n lt)
    go k false le =
        let none : get_or cells k 0 ≡ 0 = get_or-eq_default cells 0 (omega (arith, ltb-false k n le)) in
        (omega arith, λ p. absurd (omega arith))

    both : (k : ℕ) → FitCell ts k (get_or cells k 0)
    both k = go k (ltb k n) refl

pub cells-table : (ts : Tasks) (f : ℕ → ℕ) (n : ℕ) → ((k : ℕ) → k < n → FitCell ts k (f k)) → Cells ts n (map f (up_from 0 n))
cells-table ts f n h =
    cells_sized ts n (map f (up_from 0 n)) (length-table f n)
    (λ k lt. subst (FitCell ts k) (sym (get_or-table f n k 0 lt)) (h k lt))

-- the slots left in a cell by the table
pub cell_entry : (f : ℕ → ℕ) (table : List ℕ) → table ≡ map f (up_from 0 slot_cells) → (k : ℕ) → k < slot_cells → get_or table k 0 ≡ f k
cell_entry f table e k lt = ap (λ l. get_or l k 0) e ∙ get_or-table f slot_cells k 0 lt

-- cells of no jobs
pub empty-jobs : (ts : Tasks) (n : ℕ) → jobs_of ts (replicate n 0) ≡ []
empty-jobs ts n =
    jobs_sized ts n (replicate n 0) (length-replicate n 0)
    ∙ flat_map-none (λ k. jobs_in ts k (get_or (replicate n 0) k 0)) (up_from 0 n)
    (λ k m. ap (jobs_in ts k) (get_or-replicate n k 0 0 (omega (arith, mem-of-up_from 0 n m))))

pub empty-cells : (ts : Tasks) (n : ℕ) → Cells ts n (replicate n 0)
empty-cells ts n = record { size = length-replicate n 0; work = λ k. omega (arith, zeros n k); left = λ k p. absurd (omega (arith, zeros n k)) }
  where
    zeros : (m k : ℕ) → ◌≡◌ {A = ℕ} (get_or (replicate m 0) k 0) 0
    zeros zero k = refl
    zeros (suc m) zero = refl
    zeros (suc m) (suc k) = zeros m k

-- ---- 4. slots left falls by 1

-- a row further on is a slot younger
same-task : (ts : Tasks) (k : ℕ) → task_at ts (k + max_tasks) ≡ task_at ts k
same-task ts k = ap (λ i. get_or ts i no_task) (omega arith)

pub left-falls : (ts : Tasks) (k : ℕ) → k < cell_count → left_in ts (k + max_tasks) - 1 ≡ left_in ts k
left-falls ts k h = omega (arith, ap (λ (t : Task). t.window) (same-task ts k))

aged_cell : (ts : Tasks) (k w : ℕ) → k < cell_count → keep stays (map tick (jobs_in ts (k + max_tasks) w)) ≡ jobs_in ts k (cond (ltb 1 (left_in ts (k + max_tasks))) w 0)
aged_cell ts k w h = go (ltb 0 w) (ltb 1 (left_in ts (k + max_tasks))) refl refl
  where
    go : (a b : Bool) → ltb 0 w ≡ a → ltb 1 (left_in ts (k + max_tasks)) ≡ b
        → keep stays (map tick (cons_if a (job_in ts (k + max_tasks) w) [])) ≡ jobs_in ts k (cond b w 0)
    go true true p q =
        rw (p, lt-ltb 0 (left_in ts (k + max_tasks) - 1) (omega (arith, ltb-true 1 (left_in ts (k + max_tasks)) q)))
        (λ i. record { task = task i; work = w; left = left-falls ts k h i } ∷ [])
      where
        task : task_in (k + max_tasks) ≡ task_in k
        task = omega arith
    go true false p q =
        rw (p, le-ltb 0 (left_in ts (k + max_tasks) - 1) (omega (arith, ltb-false 1 (left_in ts (k + max_tasks)) q)))
    go false true p q = rw p
    go false false p q = refl

-- the oldest jobs go
aged-first : (ts : Tasks) (k w : ℕ) → TasksInRange ts → k < max_tasks → keep stays (map tick (jobs_in ts k w)) ≡ []
aged-first ts k w r h = go (ltb 0 w)
  where
    go : (a : Bool) → keep stays (map tick (cons_if a (job_in ts k w) [])) ≡ []
    go true = rw (le-ltb 0 (left_in ts k - 1) (omega (arith, window-low ts r (k % max_tasks))), and-false)
    go false = refl

module _ (ts : Tasks) (r : TasksInRange ts) (left : List ℕ) (e : left ≡ left_table ts) (cells : List ℕ) (h : Cells ts slot_cells cells) where
  aged_in : ℕ → ℕ
  aged_in k = staying_in cells left (k + max_tasks)

  after : ℕ → List Job
  after k = keep stays (map tick (jobs_in ts k (get_or cells k 0)))

  aged-table : aged cells left ≡ map aged_in (up_from 0 cell_count)
  unfolding aged aged_in
  aged-table = map_shift (staying_in cells left) 0 max_tasks cell_count

  aged_in_lem : (k : ℕ) → k < cell_count → jobs_in ts k (aged_in k) ≡ after (k + max_tasks)
  unfolding aged_in after
  aged_in_lem k lt =
      ap (λ l. jobs_in ts k (cond (ltb 1 l) (get_or cells (k + max_tasks) 0) 0)) (cell_entry (left_in ts) left e (k + max_tasks) (omega arith))
      ∙ sym (aged_cell ts k (get_or cells (k + max_tasks) 0) lt)

  aged-jobs : jobs_of ts (aged cells left) ≡ keep stays (map tick (jobs_of ts cells))
  unfolding after
  aged-jobs =
      ap (jobs_of ts) aged-table ∙ jobs-table ts aged_in cell_count
      ∙ flat_map-same (λ k. jobs_in ts k (aged_in k)) (λ k. after (k + max_tasks)) (up_from 0 cell_count)
      (λ k m. aged_in_lem k (omega (arith, mem-of-up_from 0 cell_count m)))
      ∙ sym (flat_map_shift after 0 max_tasks cell_count)
      ∙ ap (λ l. l ++ flat_map after (up_from max_tasks cell_count))
      (sym (flat_map-none after (up_from 0 max_tasks) (λ k m. aged-first ts k (get_or cells k 0) r (omega (arith, mem-of-up_from 0 max_tasks m)))))
      ∙ sym (flat_map-append after (up_from 0 max_tasks) (up_from max_tasks cell_count))
      ∙ ap (flat_map after) (sym (up_from-append 0 max_tasks cell_count))
      ∙ sym (keep-flat_map stays (λ k. map tick (jobs_in ts k (get_or cells k 0))) (up_from 0 slot_cells))
      ∙ ap (keep stays) (sym (map-flat_map tick (λ k. jobs_in ts k (get_or cells k 0)) (up_from 0 slot_cells)))
      ∙ ap (λ js. keep stays (map tick js)) (sym (jobs_sized ts slot_cells cells h.size))

  aged-cells : Cells ts cell_count (aged cells left)
  unfolding aged_in
  aged-cells =
      subst (Cells ts cell_count) (sym aged-table)
      (cells-table ts aged_in cell_count (λ k lt. go k lt (ltb 1 (get_or left (k + max_tasks) 0)) refl))
    where
      go : (k : ℕ) → k < cell_count → (b : Bool) → ltb 1 (get_or left (k + max_tasks) 0) ≡ b → FitCell ts k (cond b (get_or cells (k + max_tasks) 0) 0)
      go k lt true p = (
        omega (arith, h.work (k + max_tasks), ap (λ (t : Task). t.work) (same-task ts k)),
        λ _. omega (arith, left-falls ts k lt, cell_entry (left_in ts) left e (k + max_tasks) (omega arith), ltb-true 1 (get_or left (k + max_tasks) 0) p),
      )
      go k lt false p = (omega arith, λ q. absurd (omega arith))

  pub aged-leaves : {after : List ℕ} → after ≡ aged cells left → Leaves ts (keep stays (map tick (jobs_of ts cells))) cell_count after
  aged-leaves is = leaves-same is aged-jobs aged-cells

-- ---- 3. the job of a cell runs

-- two jobs with slots left that share task and slots left are in one cell
pub one_cell : (ts : Tasks) (i k : ℕ) → i < slot_cells → k < slot_cells → 0 < left_in ts i → task_in i ≡ task_in k → left_in ts i ≡ left_in ts k → i ≡ k
one_cell ts i k hi hk p t l =
    let same : i % max_tasks ≡ k % max_tasks = omega arith in
    omega (arith, ap (λ j. (get_or ts j no_task).window) same)

module _ (ts : Tasks) (cells : List ℕ) (at : ℕ) (h : Cells ts slot_cells cells) (lt : at < slot_cells) (p : 0 < get_or cells at 0) where
  chosen : Job
  chosen = job_in ts at (get_or cells at 0)

  run_cell : (k : ℕ) → k < slot_cells → jobs_in ts k (get_or (worked_in cells at) k 0) ≡ keep unfinished (map (worked chosen) (jobs_in ts k (get_or cells k 0)))
  unfolding chosen
  run_cell k hk = here (eqb k at) refl
    where
      other : (a : Bool) → ltb 0 (get_or cells k 0) ≡ a → (k ≡ at → ⊥)
          → cons_if a (job_in ts k (get_or cells k 0)) [] ≡ keep unfinished (map (worked (job_in ts at (get_or cells at 0))) (cons_if a (job_in ts k (get_or cells k 0)) []))
      other true e ne =
          rw (differ (eqb (task_in at) (task_in k)) (eqb (left_in ts at) (left_in ts k)) refl refl, e)
        where
          differ : (a b : Bool) → eqb (task_in at) (task_in k) ≡ a → eqb (left_in ts at) (left_in ts k) ≡ b → (a && b) ≡ false
          differ true true x y =
              absurd (ne (sym (one_cell ts at k lt hk (h.left at p) (eqb-true _ _ x) (eqb-true _ _ y))))
          differ true false x y = refl
          differ false b x y = refl
      other false e ne = refl

      here : (b : Bool) → eqb k at ≡ b → jobs_in ts k (get_or (worked_in cells at) k 0) ≡ keep unfinished (map (worked (job_in ts at (get_or cells at 0))) (jobs_in ts k (get_or cells k 0)))
      here true e =
          subst (λ j. jobs_in ts j (get_or (worked_in cells at) j 0) ≡ keep unfinished (map (worked (job_in ts at (get_or cells at 0))) (jobs_in ts j (get_or cells j 0))))
          (sym (eqb-true k at e))
          (rw (get_or-set_same cells at (get_or cells at 0 - 1) 0 (omega (arith, h.size)), lt-ltb 0 (get_or cells at 0) p, eq-eqb (task_in at) (task_in at) refl, eq-eqb (left_in ts at) (left_in ts at) refl))
      here false e =
          rw (get_or-set_other cells at k (get_or cells at 0 - 1) 0 (eqb-false k at e))
          (other (ltb 0 (get_or cells k 0)) refl (eqb-false k at e))

  run-jobs : jobs_of ts (worked_in cells at) ≡ keep unfinished (map (worked (job_in ts at (get_or cells at 0))) (jobs_of ts cells))
  unfolding chosen
  run-jobs =
      jobs_sized ts slot_cells (worked_in cells at) (length-set cells at (get_or cells at 0 - 1) ∙ h.size)
      ∙ flat_map-same (λ k. jobs_in ts k (get_or (worked_in cells at) k 0)) (λ k. keep unfinished (map (worked chosen) (jobs_in ts k (get_or cells k 0)))) (up_from 0 slot_cells)
      (λ k m. run_cell k (omega (arith, mem-of-up_from 0 slot_cells m)))
      ∙ sym (keep-flat_map unfinished (λ k. map (worked chosen) (jobs_in ts k (get_or cells k 0))) (up_from 0 slot_cells))
      ∙ ap (keep unfinished) (sym (map-flat_map (worked chosen) (λ k. jobs_in ts k (get_or cells k 0)) (up_from 0 slot_cells)))
      ∙ ap (λ js. keep unfinished (map (worked chosen) js)) (sym (jobs_sized ts slot_cells cells h.size))

  run-cells : Cells ts slot_cells (worked_in cells at)
  run-cells = record {
    size = length-set cells at (get_or cells at 0 - 1) ∙ h.size;
    work = λ k. omega (arith, falls k, h.work k);
    left = λ k q. h.left k (omega (arith, falls k));
  }
    where
      falls : (k : ℕ) → get_or (worked_in cells at) k 0 ≤ get_or cells k 0
      falls k = go (eqb k at) refl
        where
          go : (b : Bool) → eqb k at ≡ b → get_or (worked_in cells at) k 0 ≤ get_or cells k 0
          go true e =
              subst (λ j. get_or (worked_in cells at) j 0 ≤ get_or cells j 0) (sym (eqb-true k at e))
              (omega (arith, get_or-set_same cells at (get_or cells at 0 - 1) 0 (omega (arith, h.size))))
          go false e = omega (arith, get_or-set_other cells at k (get_or cells at 0 - 1) 0 (eqb-false k at e))

  pub worked-leaves : {after : List ℕ} → after ≡ worked_in cells at → Leaves ts (keep unfinished (map (worked (job_in ts at (get_or cells at 0))) (jobs_of ts cells))) slot_cells after
  worked-leaves is = leaves-same is run-jobs run-cells
