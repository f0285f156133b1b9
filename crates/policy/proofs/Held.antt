-- The jobs that a lock holds, on cells: the cell that is chosen has the first job by the key.
-- Assumes nothing.
use mathlib.Core.Path.{◌≡◌, refl, sym, ◌∙◌, ap, ap₂, subst}
use mathlib.Core.Bool.{Bool, true, false, cond, ◌&&◌, and-true}
use mathlib.Core.List.Memᴰ
use mathlib.Core.List.{List, [], ◌∷◌, foldl, Memᴰ}
use mathlib.Core.Logic.{◌⊎◌, inl, inr, ⊎_elim}
use mathlib.Core.Option.{Option, none, some, none-ne-some, some-injective}
use Prim.Native.Nat.{ℕ, zero, suc, ◌≤◌, ◌<◌}
use native.Mathlib.Decide.{dec_lt}
use native.Mathlib.Omega.{arith}
use borrow.Author.Tests.{lt-ltb, le-ltb, ltb-true, ltb-false}
use lib.Dec.{ltb}
use lib.ListN.{get_or}
use Rattle.model.specs.Lists.{cons_if, keep, up_from}
use Rattle.model.specs.Plan.{Task}
use Rattle.model.specs.Slot.{Job, policy_key, held, key, key_below, sooner, first}
use Rattle.model.proofs.Lists.{flat_map-same, mem-of-up_from}
use Rattle.policy.specs.View.{Tasks, slot_cells, task_at, left_table, hold_in, hold_table, job_in, jobs_in, jobs_of, TasksInRange, Cells, first_cell, held_in, held_cells, greatest, has_job, runnable_cells}
use Rattle.policy.proofs.Lists.{keep-flat_map}
use Rattle.policy.proofs.Cells.{jobs_sized, jobs-table, FitCell, cells-table, cell_entry}
use Rattle.policy.proofs.Canonical.{job_cell, cell_job}
use Rattle.policy.proofs.Keys.{task-number, Chosen, first_cell_lem}

-- ---- the first by a key with a test in front

-- the first of those that pass, or else of all
abbrev or_first : Option Job → Option Job → Option Job
or_first none n = n
or_first (some m) n = some m

module _ (d : Job → Bool) (p : Job → List ℕ) where
  abbrev in_front : Job → List ℕ
  in_front j = cond (d j) 0 1 ∷ p j

  -- the first so far passes, and fails where none has passed
  abbrev Passing : Option Job → Type 0
  Passing o = (m : Job) → o ≡ some m → d m ≡ true

  abbrev Failing : Option Job → Option Job → Type 0
  Failing o n = (m : Job) → o ≡ none → n ≡ some m → d m ≡ false

  -- one job more
  first_next : (o n : Option Job) (j : Job) (b : Bool) → d j ≡ b → Passing o → Failing o n →
      sooner in_front (or_first o n) j ≡ or_first (cond b (sooner p o j) o) (sooner p n j)
  first_next (some m) n j true e h f = rw (e, h m refl)
  first_next (some m) n j false e h f = rw (e, h m refl)
  first_next none none j true e h f = refl
  first_next none none j false e h f = refl
  first_next none (some m) j true e h f = rw (e, f m refl refl)
  first_next none (some m) j false e h f = rw (e, f m refl refl)

  -- what was so stays so
  passing : (j : Job) (b : Bool) → d j ≡ b → (o : Option Job) → Passing o → Passing (cond b (sooner p o j) o)
  passing j true e none h m is = ap d (sym (some-injective j m is)) ∙ e
  passing j true e (some a) h m is = pick (key_below (p j) (p a)) is
    where
      pick : (c : Bool) → some (cond c j a) ≡ some m → d m ≡ true
      pick true is = ap d (sym (some-injective j m is)) ∙ e
      pick false is = ap d (sym (some-injective a m is)) ∙ h a refl
  passing j false e o h m is = h m is

  failing : (j : Job) (b : Bool) → d j ≡ b → (o n : Option Job) → Failing o n → Failing (cond b (sooner p o j) o) (sooner p n j)
  failing j true e none n f m is t = absurd (none-ne-some j (sym is))
  failing j true e (some a) n f m is t = absurd (none-ne-some (cond (key_below (p j) (p a)) j a) (sym is))
  failing j false e o none f m is t = ap d (sym (some-injective j m t)) ∙ e
  failing j false e o (some a) f m is t = pick (key_below (p j) (p a)) t
    where
      pick : (c : Bool) → some (cond c j a) ≡ some m → d m ≡ false
      pick true t = ap d (sym (some-injective j m t)) ∙ e
      pick false t = ap d (sym (some-injective a m t)) ∙ f a is refl

  -- a job is kept or not
  kept_next : (j : Job) (js : List Job) (o : Option Job) (b : Bool) →
      foldl (sooner p) (cond b (sooner p o j) o) (keep d js) ≡ foldl (sooner p) o (cons_if b j (keep d js))
  kept_next j js o true = refl
  kept_next j js o false = refl

  first-from : (js : List Job) (o n : Option Job) → Passing o → Failing o n →
      foldl (sooner in_front) (or_first o n) js ≡ or_first (foldl (sooner p) o (keep d js)) (foldl (sooner p) n js)
  first-from [] o n h f = refl
  first-from (j ∷ js) o n h f =
      ap (λ a. foldl (sooner in_front) a js) (first_next o n j (d j) refl h f)
      ∙ first-from js (cond (d j) (sooner p o j) o) (sooner p n j) (passing j (d j) refl o h) (failing j (d j) refl o n f)
      ∙ ap (λ a. or_first a (foldl (sooner p) (sooner p n j) js)) (kept_next j js o (d j))

  -- the first by both is the first of those that pass, if there is one
  pub first-passing : (js : List Job) → first in_front js ≡ or_first (first p (keep d js)) (first p js)
  unfolding first
  first-passing js = first-from js none none (λ m e. absurd (none-ne-some m e)) (λ m e n. absurd (none-ne-some m n))

-- "a locked job that has begun and is unfinished runs before all others"
first_by_key : (ts : Tasks) (policy : ℕ) (js : List Job) →
    first (key ts policy) js ≡ or_first (first (policy_key ts policy) (keep (held ts) js)) (first (policy_key ts policy) js)
unfolding key
first_by_key ts policy js = first-passing (held ts) (policy_key ts policy) js

-- there is a first of some jobs
some_first : (k : Job → List ℕ) (l : List Job) (m : Job) → foldl (sooner k) (some m) l ≡ none → ⊥
some_first k [] m e = none-ne-some m (sym e)
some_first k (j ∷ l) m e = some_first k l (cond (key_below (k j) (k m)) j m) e

no_first : (k : Job → List ℕ) (l : List Job) → first k l ≡ none → l ≡ []
unfolding first
no_first k [] e = refl
no_first k (j ∷ l) e = absurd (some_first k l j e)

none_first : (k : Job → List ℕ) (n : Option Job) → or_first (first k []) n ≡ n
unfolding first
none_first k n = refl

no_members : (l : List Job) → ((j : Job) → Memᴰ j l → ⊥) → l ≡ []
no_members [] h = refl
no_members (j ∷ l) h = absurd (h j (Memᴰ.head refl))

-- ---- the greatest of some numbers

-- none is greater
greatest-le : (f : ℕ → ℕ) (n k : ℕ) → k < n → f k ≤ greatest f n
unfolding greatest
greatest-le f zero k h = absurd (omega arith)
greatest-le f (suc n) k h = go (ltb (greatest f n) (f n)) refl (greatest-le f n k)
  where
    go : (b : Bool) → ltb (greatest f n) (f n) ≡ b → (k < n → f k ≤ greatest f n) → f k ≤ cond b (f n) (greatest f n)
    go b e later = by (dec_lt k n) b e
      where
        by : Dec (k < n) → (b : Bool) → ltb (greatest f n) (f n) ≡ b → f k ≤ cond b (f n) (greatest f n)
        by (yes lt) true e = omega (arith, later lt, ltb-true (greatest f n) (f n) e)
        by (yes lt) false e = later lt
        by (no ge) true e = let is : k ≡ n = omega arith in rw is (omega arith)
        by (no ge) false e = let is : k ≡ n = omega arith in rw is (omega (arith, ltb-false (greatest f n) (f n) e))

-- it is one of them, if it is not 0
greatest_in : (f : ℕ → ℕ) (n : ℕ) → 0 < greatest f n → (k : ℕ) × (k < n) × (0 < f k)
unfolding greatest
greatest_in f zero h = absurd (omega arith)
greatest_in f (suc n) h = go (ltb (greatest f n) (f n)) refl h (greatest_in f n)
  where
    go : (b : Bool) → ltb (greatest f n) (f n) ≡ b → 0 < cond b (f n) (greatest f n) → (0 < greatest f n → (k : ℕ) × (k < n) × (0 < f k)) →
        (k : ℕ) × (k < suc n) × (0 < f k)
    go true e p later = (n, omega arith, p)
    go false e p later = let r = later p in (r.0, omega (arith, r.1), r.2)

-- whether a cell has a job
has_job_lem : (cells : List ℕ) → has_job cells ≡ true → (k : ℕ) × (k < slot_cells) × (0 < get_or cells k 0)
unfolding has_job
has_job_lem cells e = greatest_in (λ k. get_or cells k 0) slot_cells (ltb-true 0 (greatest (λ k. get_or cells k 0) slot_cells) e)

no_job : (cells : List ℕ) → has_job cells ≡ false → (k : ℕ) → k < slot_cells → get_or cells k 0 ≡ 0
unfolding has_job
no_job cells e k lt =
    omega (arith, greatest-le (λ k. get_or cells k 0) slot_cells k lt, ltb-false 0 (greatest (λ k. get_or cells k 0) slot_cells) e)

-- ---- the jobs that are held

-- where its work is below the cell's, a job is held
held_in_lem : (ts : Tasks) (k w : ℕ) → 0 < w → held ts (job_in ts k w) ≡ ltb w (hold_in ts k)
held_in_lem ts k w h =
    ap₂ (λ (t : Task) (b : Bool). t.locked && ltb w t.work && b) (task-number ts k) (lt-ltb 0 w h)
    ∙ and-true ((task_at ts k).locked && ltb w (task_at ts k).work)
    ∙ by (task_at ts k).locked
  where
    by : (b : Bool) → (b && ltb w (task_at ts k).work) ≡ ltb w (cond b (task_at ts k).work 0)
    by true = refl
    by false = sym (le-ltb w 0 (omega arith))

module _ (ts : Tasks) (hold : List ℕ) (f : hold ≡ hold_table ts) (cells : List ℕ) (h : Cells ts slot_cells cells) where
  -- one cell
  held_cell : (k : ℕ) → k < slot_cells → jobs_in ts k (held_in cells hold k) ≡ keep (held ts) (jobs_in ts k (get_or cells k 0))
  held_cell k lt = go (ltb 0 (get_or cells k 0)) (ltb (get_or cells k 0) (get_or hold k 0)) refl refl
    where
      is : (b : Bool) → ltb 0 (get_or cells k 0) ≡ true → ltb (get_or cells k 0) (get_or hold k 0) ≡ b → held ts (job_in ts k (get_or cells k 0)) ≡ b
      is b p q = held_in_lem ts k (get_or cells k 0) (ltb-true 0 (get_or cells k 0) p) ∙ ap (ltb (get_or cells k 0)) (sym (cell_entry (hold_in ts) hold f k lt)) ∙ q

      go : (a b : Bool) → ltb 0 (get_or cells k 0) ≡ a → ltb (get_or cells k 0) (get_or hold k 0) ≡ b →
          jobs_in ts k (cond b (get_or cells k 0) 0) ≡ keep (held ts) (cons_if a (job_in ts k (get_or cells k 0)) [])
      go true true p q = ap (λ b. cons_if b (job_in ts k (get_or cells k 0)) []) (p ∙ sym (is true p q))
      go true false p q = ap (λ b. cons_if b (job_in ts k (get_or cells k 0)) []) (sym (is false p q))
      go false true p q = ap (λ b. cons_if b (job_in ts k (get_or cells k 0)) []) p
      go false false p q = refl

  held-jobs : jobs_of ts (held_cells cells hold) ≡ keep (held ts) (jobs_of ts cells)
  unfolding held_cells
  held-jobs =
      jobs-table ts (held_in cells hold) slot_cells
      ∙ flat_map-same (λ k. jobs_in ts k (held_in cells hold k)) (λ k. keep (held ts) (jobs_in ts k (get_or cells k 0))) (up_from 0 slot_cells)
      (λ k m. held_cell k (omega (arith, mem-of-up_from 0 slot_cells m)))
      ∙ sym (keep-flat_map (held ts) (λ k. jobs_in ts k (get_or cells k 0)) (up_from 0 slot_cells))
      ∙ ap (keep (held ts)) (sym (jobs_sized ts slot_cells cells h.size))

  -- a held cell is as it was, or has no job
  held-cases : (k : ℕ) → (held_in cells hold k ≡ get_or cells k 0) ⊎ (held_in cells hold k ≡ 0)
  held-cases k = go (ltb (get_or cells k 0) (get_or hold k 0))
    where
      go : (b : Bool) → (cond b (get_or cells k 0) 0 ≡ get_or cells k 0) ⊎ (cond b (get_or cells k 0) 0 ≡ 0)
      go true = inl refl
      go false = inr refl

  held_fit : Cells ts slot_cells (held_cells cells hold)
  unfolding held_cells
  held_fit =
      cells-table ts (held_in cells hold) slot_cells
      (λ k lt.
      ⊎_elim (λ (e : held_in cells hold k ≡ get_or cells k 0). subst (FitCell ts k) (sym e) (h.work k, h.left k))
      (λ (e : held_in cells hold k ≡ 0). subst (FitCell ts k) (sym e) (omega arith, λ p. absurd (omega arith)))
      (held-cases k))

  held-entry : (k : ℕ) → k < slot_cells → get_or (held_cells cells hold) k 0 ≡ held_in cells hold k
  unfolding held_cells
  held-entry = cell_entry (held_in cells hold) (held_cells cells hold) refl

  -- a job of a held cell is the cell's
  held_same : (k : ℕ) → k < slot_cells → 0 < get_or (held_cells cells hold) k 0 → get_or (held_cells cells hold) k 0 ≡ get_or cells k 0
  held_same k lt p =
      ⊎_elim (λ (e : held_in cells hold k ≡ get_or cells k 0). held-entry k lt ∙ e)
      (λ (e : held_in cells hold k ≡ 0). absurd (omega (arith, p, held-entry k lt, e)))
      (held-cases k)

  module _ (policy : ℕ) (r : TasksInRange ts) (left : List ℕ) (e : left ≡ left_table ts) where
    pub chosen_cell : {at : ℕ} → at ≡ first_cell policy (runnable_cells cells hold) left → Chosen ts (key ts policy) cells at
    unfolding runnable_cells
    chosen_cell is = subst (Chosen ts (key ts policy) cells) (sym is) (by (has_job among) refl)
      where
        among : List ℕ
        among = held_cells cells hold

        js : List Job
        js = jobs_of ts cells

        p : Job → List ℕ
        p = policy_key ts policy

        -- the first by the key, from those that are held
        split : first (key ts policy) js ≡ or_first (first p (jobs_of ts among)) (first p js)
        split = first_by_key ts policy js ∙ ap (λ l. or_first (first p l) (first p js)) (sym held-jobs)

        some-held : Chosen ts p among (first_cell policy among left) → has_job among ≡ true → Chosen ts (key ts policy) cells (first_cell policy among left)
        some-held c q = record {
          bound = c.bound;
          choice =
              ap (λ b. cond b (some (job_in ts at (get_or cells at 0))) none) (lt-ltb at slot_cells inside)
              ∙ sym (split ∙ ap (λ o. or_first o (first p js)) found);
          work = λ lt. subst (λ w. 0 < w) (held_same at inside (c.work inside)) (c.work inside);
        }
          where
            at : ℕ
            at = first_cell policy among left

            job : (k : ℕ) × (k < slot_cells) × (0 < get_or among k 0)
            job = has_job_lem among q

            inside : at < slot_cells
            inside = by (dec_lt at slot_cells)
              where
                by : Dec (at < slot_cells) → at < slot_cells
                by (yes lt) = lt
                by (no ge) =
                    let empty : jobs_of ts among ≡ [] =
                    no_first p (jobs_of ts among)
                    (sym c.choice ∙ ap (λ b. cond b (some (job_in ts at (get_or among at 0))) none) (le-ltb at slot_cells (omega (arith, ge)))) in
                    absurd
                    (Memᴰ.not-nil
                    (subst (Memᴰ (job_in ts job.0 (get_or among job.0 0))) empty (cell_job ts among slot_cells held_fit.size job.0 job.1 job.2)))

            found : first p (jobs_of ts among) ≡ some (job_in ts at (get_or cells at 0))
            found =
                sym c.choice
                ∙ ap (λ b. cond b (some (job_in ts at (get_or among at 0))) none) (lt-ltb at slot_cells inside)
                ∙ ap (λ w. some (job_in ts at w)) (held_same at inside (c.work inside))

        none-held : Chosen ts p cells (first_cell policy cells left) → has_job among ≡ false → Chosen ts (key ts policy) cells (first_cell policy cells left)
        none-held c q = record {
          bound = c.bound;
          choice = c.choice ∙ sym (split ∙ ap (λ l. or_first (first p l) (first p js)) empty ∙ none_first p (first p js));
          work = c.work;
        }
          where
            empty : jobs_of ts among ≡ []
            empty =
                no_members (jobs_of ts among)
                (λ j m.
                let k = job_cell ts among slot_cells held_fit.size j m in
                omega (arith, no_job among q k.0 k.1, k.2))

        by : (b : Bool) → has_job among ≡ b → Chosen ts (key ts policy) cells (first_cell policy (cond b among cells) left)
        by true q = some-held (first_cell_lem ts policy r left e among held_fit refl) q
        by false q = none-held (first_cell_lem ts policy r left e cells h refl) q
