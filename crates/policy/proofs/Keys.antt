-- The policies' keys as numbers: the least code is that of the first job.
-- Assumes nothing.
use mathlib.Core.Path.{◌≡◌, refl, sym, ◌∙◌, ap, ap₂, subst}
use mathlib.Core.Bool.{Bool, true, false, cond, ◌&&◌, ◌||◌}
use mathlib.Core.List.{List, [], ◌∷◌, ◌++◌, foldl, foldl-append, append-nil}
use mathlib.Core.Logic.{◌⊎◌, inl, inr}
use mathlib.Core.Option.{Option, none, some}
use Prim.Native.Nat.{ℕ, zero, suc, ◌+◌, ◌-◌, ◌*◌, ◌%◌, ◌≤◌, ◌<◌, min, max}
use native.Mathlib.Nat.{zero-add, suc-mul, mul-le-mul_right, le_refl}
use native.Mathlib.Numerals.{add-one}
use native.Mathlib.Omega.{arith}
use borrow.Author.Tests.{lt-ltb, le-ltb, ltb-true, ltb-false, eq-eqb, ne_eqb, eqb-true, eqb-false}
use lib.Dec.{ltb, eqb}
use lib.ListN.{get_or}
use Rattle.model.specs.Limits.{max_tasks, max_window}
use Rattle.model.specs.Lists.{cons_if, flat_map, up_from}
use Rattle.model.specs.Plan.{Task}
use Rattle.model.specs.Slot.{Job, no_task, task_of, release_slot, long_ago, edf, srt, fifo, policy_key, key_below, sooner, first}
use Rattle.model.proofs.Lists.{flat_map-append, up_from-append}
use Rattle.policy.specs.View.{Tasks, slot_cells, task_in, task_at, age_in, left_in, left_table, job_in, jobs_in, jobs_of, TasksInRange, Cells, key_number, key_in, code_in, code_at, least_code, cell_of, first_cell, places, no_code}
use Rattle.policy.proofs.Cells.{jobs_sized, window-low, work-within, cell_entry}

-- keys' first parts as digits above what is left
digit_order : (b x y p q : ℕ) (xs ys : List ℕ) → p < b → q < b → key_below xs ys ≡ ltb p q
    → key_below (x ∷ xs) (y ∷ ys) ≡ ltb (x * b + p) (y * b + q)
digit_order b x y p q xs ys hp hq e = go (ltb x y) (eqb x y) refl refl
  where
    above : (m n : ℕ) → m < n → m * b + b ≤ n * b
    above m n lt = omega (arith, suc-mul m b, mul-le-mul_right b lt)

    rest : (c : Bool) → ltb p q ≡ c → x ≡ y → c ≡ ltb (x * b + p) (y * b + q)
    rest true f same = sym (lt-ltb (x * b + p) (y * b + q) (omega (arith, ltb-true p q f, ap (λ n. n * b) same)))
    rest false f same = sym (le-ltb (x * b + p) (y * b + q) (omega (arith, ltb-false p q f, ap (λ n. n * b) same)))

    go : (c d : Bool) → ltb x y ≡ c → eqb x y ≡ d → (c || (d && key_below xs ys)) ≡ ltb (x * b + p) (y * b + q)
    go true d f g = sym (lt-ltb (x * b + p) (y * b + q) (omega (arith, above x y (ltb-true x y f))))
    go false true f g = e ∙ rest (ltb p q) refl (eqb-true x y g)
    go false false f g =
        sym (le-ltb (x * b + p) (y * b + q) (omega (arith, above y x (omega (arith, ltb-false x y f, eqb-false x y g)))))

-- keys in the order of their numbers, where those that tie are told by their cells
number-order : (h t w h' t' w' k i : ℕ) → t ≤ max_tasks → t' ≤ max_tasks → w ≤ max_window → w' ≤ max_window → i < k → k < places →
    key_below (h ∷ t ∷ w ∷ []) (h' ∷ t' ∷ w' ∷ []) ≡ ltb (key_number h t w * places + k) (key_number h' t' w' * places + i)
number-order h t w h' t' w' k i ht ht' hw hw' lt hk =
    digit_order (suc max_tasks * (suc max_window * places)) h h' (t * (suc max_window * places) + (w * places + k)) (t' * (suc max_window * places) + (w' * places + i)) (t ∷ w ∷ []) (t' ∷ w' ∷ []) (omega arith) (omega arith)
    (digit_order (suc max_window * places) t t' (w * places + k) (w' * places + i) (w ∷ []) (w' ∷ []) (omega arith) (omega arith)
    (digit_order places w w' k i [] [] hk (omega arith) (sym (le-ltb k i (omega arith)))))
    ∙ ap₂ ltb regroup regroup'
  where
    regroup : h * (suc max_tasks * (suc max_window * places)) + (t * (suc max_window * places) + (w * places + k)) ≡ key_number h t w * places + k
    regroup = omega arith

    regroup' : h' * (suc max_tasks * (suc max_window * places)) + (t' * (suc max_window * places) + (w' * places + i)) ≡ key_number h' t' w' * places + i
    regroup' = omega arith

-- the number of a task from its cell
pub task-number : (ts : Tasks) (k : ℕ) → task_of ts (task_in k) ≡ task_at ts k
task-number ts k = let e : task_in k - 1 ≡ k % max_tasks = omega arith in ap (λ n. get_or ts n no_task) e

-- numbers that lie as far apart as two others are ordered as they are
module _ (a b x y : ℕ) (e : a + y ≡ x + b) where
  same-ltb : ltb a b ≡ ltb x y
  same-ltb = go (ltb x y) refl
    where
      go : (c : Bool) → ltb x y ≡ c → ltb a b ≡ c
      go true f = lt-ltb a b (omega (arith, ltb-true x y f, e))
      go false f = le-ltb a b (omega (arith, ltb-false x y f, e))

  same-eqb : eqb a b ≡ eqb x y
  same-eqb = go (eqb x y) refl
    where
      go : (c : Bool) → eqb x y ≡ c → eqb a b ≡ c
      go true f = eq-eqb a b (omega (arith, eqb-true x y f, e))
      go false f = ne_eqb a b (λ same. eqb-false x y f (omega (arith, same, e)))

-- release slots are as far apart from either origin
origins : (a b : ℕ) → a ≤ max_window → b ≤ max_window → (long_ago - a) + (max_window - b) ≡ (max_window - a) + (long_ago - b)
origins a b h h' = omega arith

-- a job's release slot from its cell
released : (ts : Tasks) (k w : ℕ) → 0 < left_in ts k → release_slot ts (job_in ts k w) ≡ long_ago - age_in k
released ts k w h = omega (arith, ap (λ (t : Task). t.window) (task-number ts k))

module _ (ts : Tasks) (policy k i w w' : ℕ) (lt : i < k) (hk : k < places) (lk : left_in ts k ≤ max_window) (li : left_in ts i ≤ max_window)
    (pk : 0 < left_in ts k) (pi : 0 < left_in ts i) where
  key-order : key_below (policy_key ts policy (job_in ts k w)) (policy_key ts policy (job_in ts i w'))
      ≡ ltb (key_in policy k w (left_in ts k) * places + k) (key_in policy i w' (left_in ts i) * places + i)
  unfolding policy_key key_in
  key-order = go (eqb policy edf) (eqb policy srt) (eqb policy fifo)
    where
      tk : task_in k ≤ max_tasks
      tk = omega arith

      ti : task_in i ≤ max_tasks
      ti = omega arith

      key_by : (a b c : Bool) → Job → List ℕ
      key_by a b c j = cond a (j.left ∷ j.task ∷ []) (cond b (j.work ∷ j.task ∷ j.left ∷ []) (cond c (release_slot ts j ∷ j.task ∷ []) (j.task ∷ j.left ∷ [])))

      number_by : (a b c : Bool) → ℕ → ℕ → ℕ
      number_by a b c n v =
          cond a (key_number (left_in ts n) (task_in n) 0)
          (cond b (key_number v (task_in n) (left_in ts n))
          (cond c (key_number (max_window - age_in n) (task_in n) 0)
          (key_number 0 (task_in n) (left_in ts n))))

      go : (a b c : Bool) → key_below (key_by a b c (job_in ts k w)) (key_by a b c (job_in ts i w')) ≡ ltb (number_by a b c k w * places + k) (number_by a b c i w' * places + i)
      go true b c = number-order (left_in ts k) (task_in k) 0 (left_in ts i) (task_in i) 0 k i tk ti (omega arith) (omega arith) lt hk
      go false true c = number-order w (task_in k) (left_in ts k) w' (task_in i) (left_in ts i) k i tk ti lk li lt hk
      go false false true =
          ap₂ (λ x y. key_below (x ∷ task_in k ∷ []) (y ∷ task_in i ∷ [])) (released ts k w pk) (released ts i w' pi)
          ∙ ap₂ (λ x y. (x || (y && key_below (task_in k ∷ []) (task_in i ∷ []))))
          (same-ltb (long_ago - age_in k) (long_ago - age_in i) (max_window - age_in k) (max_window - age_in i) (origins (age_in k) (age_in i) (omega arith) (omega arith)))
          (same-eqb (long_ago - age_in k) (long_ago - age_in i) (max_window - age_in k) (max_window - age_in i) (origins (age_in k) (age_in i) (omega arith) (omega arith)))
          ∙ number-order (max_window - age_in k) (task_in k) 0 (max_window - age_in i) (task_in i) 0 k i tk ti (omega arith) (omega arith) lt hk
      go false false false = number-order 0 (task_in k) (left_in ts k) 0 (task_in i) (left_in ts i) k i tk ti lk li lt hk

-- a key of bytes, as a number
pub key-low : (policy k w l : ℕ) → w ≤ 255 → l ≤ 255 → key_in policy k w l ≤ key_number 255 max_tasks 255
unfolding key_in
key-low policy k w l hw hl = go (eqb policy edf) (eqb policy srt) (eqb policy fifo)
  where
    go : (a b c : Bool) →
        cond a (key_number l (task_in k) 0) (cond b (key_number w (task_in k) l) (cond c (key_number (max_window - age_in k) (task_in k) 0) (key_number 0 (task_in k) l)))
        ≤ key_number 255 max_tasks 255
    go true b c = omega arith
    go false true c = omega arith
    go false false true = omega arith
    go false false false = omega arith

left-low : (ts : Tasks) → TasksInRange ts → (k : ℕ) → left_in ts k ≤ max_window
left-low ts r k = omega (arith, window-low ts r (k % max_tasks))

-- the job of the cell at, none from `slot_cells` on
abbrev pub choice_in : Tasks → List ℕ → ℕ → Option Job
choice_in ts cells at = cond (ltb at slot_cells) (some (job_in ts at (get_or cells at 0))) none

-- the cell at has the first job by the key, if there is a job
pub record Chosen (ts : Tasks) (key : Job → List ℕ) (cells : List ℕ) (at : ℕ) : Type 0 where
  pub bound : at ≤ slot_cells
  pub choice : choice_in ts cells at ≡ first key (jobs_of ts cells)
  pub work : at < slot_cells → 0 < get_or cells at 0

module _ (ts : Tasks) (policy : ℕ) (r : TasksInRange ts) (left : List ℕ) (e : left ≡ left_table ts) (cells : List ℕ) (h : Cells ts slot_cells cells) where
  -- the job and the code of a cell that has one
  job : ℕ → Job
  job k = job_in ts k (get_or cells k 0)

  code : ℕ → ℕ
  code k = key_in policy k (get_or cells k 0) (left_in ts k) * places + k

  code-low : (k : ℕ) → k < slot_cells → code k < no_code
  unfolding code
  code-low k lt =
      let low : get_or cells k 0 ≤ max_window = omega (arith, h.work k, work-within ts r (k % max_tasks), window-low ts r (k % max_tasks)) in
      omega (arith, key-low policy k (get_or cells k 0) (left_in ts k) (omega arith) (omega (arith, left-low ts r k)))

  -- of the first n cells: none has a job, or that of i has the least code and is the first by the key
  Best : ℕ → ℕ → Option Job → Type 0
  Best n best m = ((best ≡ no_code) × (m ≡ none)) ⊎ ((i : ℕ) × (i < n) × (0 < get_or cells i 0) × (best ≡ code i) × (m ≡ some (job i)))

  best_none : (n best : ℕ) (m : Option Job) → n < slot_cells → Best n best m → Best (suc n) (cond (ltb no_code best) no_code best) m
  unfolding Best
  best_none n best m lt (inl e) = inl (ap (λ b. cond (ltb no_code b) no_code b) e.0, e.1)
  best_none n best m lt (inr (i, li, p, e, f)) =
      inr (i, omega arith, p, rw (le-ltb no_code best (omega (arith, code-low i (omega arith)))) e, f)

  best-some : (n best : ℕ) (m : Option Job) → n < slot_cells → 0 < get_or cells n 0 → Best n best m → Best (suc n) (cond (ltb (code n) best) (code n) best) (sooner (policy_key ts policy) m (job n))
  unfolding Best code job
  best-some n best m lt p (inl e) =
      inr (n, omega arith, p, ap (λ b. cond (ltb (code n) b) (code n) b) e.0 ∙ rw (lt-ltb (code n) no_code (code-low n lt)), ap (λ o. sooner (policy_key ts policy) o (job n)) e.1)
  best-some n best m lt p (inr (i, li, q, e, f)) = pick (ltb (code n) (code i)) refl
    where
      order : key_below (policy_key ts policy (job n)) (policy_key ts policy (job i)) ≡ ltb (code n) (code i)
      order = key-order ts policy n i (get_or cells n 0) (get_or cells i 0) li (omega arith) (left-low ts r n) (left-low ts r i) (h.left n p) (h.left i q)

      pick : (b : Bool) → ltb (code n) (code i) ≡ b → Best (suc n) (cond (ltb (code n) best) (code n) best) (sooner (policy_key ts policy) m (job n))
      pick true c =
          inr (n, omega arith, p, ap (λ x. cond (ltb (code n) x) (code n) x) e ∙ rw c, ap (λ o. sooner (policy_key ts policy) o (job n)) f ∙ ap (λ b. some (cond b (job n) (job i))) (order ∙ c))
      pick false c =
          inr (i, omega arith, q, ap (λ x. cond (ltb (code n) x) (code n) x) e ∙ rw c, ap (λ o. sooner (policy_key ts policy) o (job n)) f ∙ ap (λ b. some (cond b (job n) (job i))) (order ∙ c))

  -- the jobs of the first n cells
  up_to : ℕ → List Job
  up_to n = flat_map (λ k. jobs_in ts k (get_or cells k 0)) (up_from 0 n)

  up_suc : (n : ℕ) → up_to (suc n) ≡ up_to n ++ jobs_in ts n (get_or cells n 0)
  unfolding up_to
  up_suc n =
      ap up_to (sym (add-one n)) ∙ ap (flat_map (λ k. jobs_in ts k (get_or cells k 0))) (up_from-append 0 n 1)
      ∙ flat_map-append (λ k. jobs_in ts k (get_or cells k 0)) (up_from 0 n) (up_from (0 + n) 1)
      ∙ ap (λ l. up_to n ++ l) (append-nil (jobs_in ts (0 + n) (get_or cells (0 + n) 0)) ∙ ap (λ k. jobs_in ts k (get_or cells k 0)) (zero-add n))

  first_to : ℕ → Option Job
  first_to n = foldl (sooner (policy_key ts policy)) none (up_to n)

  codes : ℕ → ℕ
  codes = code_at policy cells left

  code-none : (k : ℕ) → ltb 0 (get_or cells k 0) ≡ false → codes k ≡ no_code
  unfolding codes code_in
  code-none k c = rw (eq-eqb (get_or cells k 0) 0 (omega (arith, ltb-false 0 (get_or cells k 0) c)))

  code-some : (k : ℕ) → k < slot_cells → ltb 0 (get_or cells k 0) ≡ true → codes k ≡ code k
  unfolding codes code_in code
  code-some k lt c =
      rw (ne_eqb (get_or cells k 0) 0 (λ z. absurd (omega (arith, ltb-true 0 (get_or cells k 0) c))), cell_entry (left_in ts) left e k lt)

  best-to : (n : ℕ) → n ≤ slot_cells → Best n (least_code codes n) (first_to n)
  unfolding Best first_to up_to least_code job
  best-to zero le = inl (refl, refl)
  best-to (suc n) le =
      subst (Best (suc n) (least_code codes (suc n)))
      (sym (ap (foldl (sooner (policy_key ts policy)) none) (up_suc n) ∙ foldl-append (sooner (policy_key ts policy)) none (up_to n) (jobs_in ts n (get_or cells n 0))))
      (go (ltb 0 (get_or cells n 0)) refl (best-to n (omega arith)))
    where
      go : (b : Bool) → ltb 0 (get_or cells n 0) ≡ b → Best n (least_code codes n) (first_to n)
          → Best (suc n) (cond (ltb (codes n) (least_code codes n)) (codes n) (least_code codes n)) (foldl (sooner (policy_key ts policy)) (first_to n) (cons_if b (job n) []))
      go true c s = rw (code-some n le c) (best-some n (least_code codes n) (first_to n) le (ltb-true 0 (get_or cells n 0) c) s)
      go false c s = rw (code-none n c) (best_none n (least_code codes n) (first_to n) le s)

  -- what the least code says of the first job
  told : (best : ℕ) → Best slot_cells best (first (policy_key ts policy) (jobs_of ts cells)) → Chosen ts (policy_key ts policy) cells (cell_of best)
  unfolding Best code job
  told best (inl s) =
      rw (eq-eqb best no_code s.0) (record { bound = omega arith; choice = sym s.1; work = λ lt. absurd (omega arith) })
  told best (inr (i, lt, p, c, f)) =
      let place : best % places ≡ i = omega arith in
      rw (ne_eqb best no_code (λ z. absurd (omega (arith, code-low i lt))), place)
      (record { bound = omega arith; choice = rw (lt-ltb i slot_cells lt) (sym f); work = λ _. p })

  pub first_cell_lem : {at : ℕ} → at ≡ first_cell policy cells left → Chosen ts (policy_key ts policy) cells at
  unfolding first first_to up_to codes first_cell
  first_cell_lem is =
      subst (Chosen ts (policy_key ts policy) cells) (sym is)
      (told (least_code codes slot_cells)
      (subst (Best slot_cells (least_code codes slot_cells)) (ap (foldl (sooner (policy_key ts policy)) none) (sym (jobs_sized ts slot_cells cells h.size)))
      (best-to slot_cells (le_refl slot_cells))))

-- the least and the greatest of two numbers, as the definitions have them
pub least-min : (a b : ℕ) → min a b ≡ cond (ltb b a) b a
least-min a b = go (ltb b a) refl
  where
    go : (c : Bool) → ltb b a ≡ c → min a b ≡ cond c b a
    go true e = omega (arith, ltb-true b a e)
    go false e = omega (arith, ltb-false b a e)

pub greatest-max : (a b : ℕ) → max a b ≡ cond (ltb a b) b a
greatest-max a b = go (ltb a b) refl
  where
    go : (c : Bool) → ltb a b ≡ c → max a b ≡ cond c b a
    go true e = omega (arith, ltb-true a b e)
    go false e = omega (arith, ltb-false a b e)

-- the cell of the least of n codes is one of the first n
pub cell-below : (policy : ℕ) (cells left : List ℕ) (n : ℕ) → n ≤ slot_cells → (least_code (code_at policy cells left) n ≡ no_code → ⊥) →
    least_code (code_at policy cells left) n % places < n
unfolding least_code code_in
cell-below policy cells left zero le there = absurd (there refl)
cell-below policy cells left (suc n) le there =
    go (ltb (code_at policy cells left n) (least_code (code_at policy cells left) n)) (cell-below policy cells left n (omega arith)) there
  where
    coded : (b : Bool) (key : ℕ) → (cond b no_code (key * places + n) ≡ no_code → ⊥) → cond b no_code (key * places + n) % places < suc n
    coded true key ne = absurd (ne refl)
    coded false key ne = omega arith

    go : (b : Bool) → ((least_code (code_at policy cells left) n ≡ no_code → ⊥) → least_code (code_at policy cells left) n % places < n) →
        (cond b (code_at policy cells left n) (least_code (code_at policy cells left) n) ≡ no_code → ⊥) →
        cond b (code_at policy cells left n) (least_code (code_at policy cells left) n) % places < suc n
    go true below ne = coded (eqb (get_or cells n 0) 0) (key_in policy n (get_or cells n 0) (get_or left n 0)) ne
    go false below ne = omega (arith, below ne)
