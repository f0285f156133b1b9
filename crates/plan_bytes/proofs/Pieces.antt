-- A plan's bytes, piece by piece.
-- Assumes nothing.
use mathlib.Core.Path.{◌≡◌, sym, ap, ◌∙◌}
use mathlib.Core.Bool.{Bool, cond}
use mathlib.Core.List.{List, [], ◌∷◌, ◌++◌, map, map-append, append_assoc, append-nil}
use Prim.Native.Nat.{ℕ, zero, suc, ◌+◌, ◌-◌, ◌/◌, ◌%◌, ◌≤◌, ◌<◌}
use native.Mathlib.Nat.{add-zero}
use native.Mathlib.Numerals.{add-one}
use native.Mathlib.Omega.{arith}
use lib.ListN.{length, get_or, take, length-map, length-append}
use lib.Seq.{take-suc, take_all}
use Rattle.model.specs.Bytes.{Put}
use Rattle.model.specs.Edition.{Edition, task_width}
use Rattle.model.specs.Lists.{flat_map}
use Rattle.model.specs.Plan as model
use Rattle.model.specs.PlanBytes.{task_bytes, lock_bytes, arc_bytes, plan_bytes_in}
use Rattle.model.proofs.Lists.{flat_map-append}
use Rattle.model.proofs.Plan.{lock_bytes-append}
use Rattle.words.proofs.Numbers.{bytes-length}
use Rattle.words.proofs.Put.{put_then, put_as}
use Rattle.plan.specs.declared.tasks.Task.{Task}
use Rattle.plan.specs.declared.tasks.TaskList.{TaskList}
use Rattle.plan.specs.View.{empty_task, task_view, tasks_of, list_of, label_count, arc_at, arcs_below}
use Rattle.plan.proofs.View.{tasks-length, tasks-size}
use Rattle.plan_bytes.specs.Sizes.{arc_size}

-- one after another they are the plan's bytes
pub plan_pieces : (e : Edition) (P : model.Plan) →
    flat_map (task_bytes e) P.tasks ++ lock_bytes P.tasks 1 ++ (0x02 ∷ P.policy ∷ 0x03 ∷ P.states ∷ []) ++ flat_map arc_bytes P.arcs ++ (0x05 ∷ []) ≡ plan_bytes_in e P
unfolding plan_bytes_in
plan_pieces e P = simp append_assoc

-- ---- their lengths

pub task-length : (e : Edition) (t : model.Task) → length (task_bytes e t) ≡ task_width e
task-length e t = omega (arith, bytes-length e.value_width t.value)

-- an arc, or nothing
pub pair_length : (k e : ℕ) → length (flat_map arc_bytes (arc_at k e)) ≤ arc_size
pair_length k zero = omega arith
pair_length k (suc t) = omega arith

-- ---- the lock of a task

-- a lock, or nothing
pub lock-bytes : (t : model.Task) (n : ℕ) {b : Bool} → t.locked ≡ b → lock_bytes (t ∷ []) n ≡ cond b (0x09 ∷ n ∷ []) []
lock-bytes t n e = append-nil _ ∙ ap (λ (b : Bool). cond b (0x09 ∷ n ∷ []) []) e

-- behind those before it
lock-next : (ts : List Task) (i : ℕ) → i < length ts →
    lock_bytes (tasks_of ts (i + 1)) 1 ≡ lock_bytes (tasks_of ts i) 1 ++ lock_bytes (task_view (get_or ts i empty_task) ∷ []) (i + 1)
lock-next ts i below =
    let t = task_view (get_or ts i empty_task) in
    let split : tasks_of ts (i + 1) ≡ tasks_of ts i ++ (t ∷ []) = rw (add-one i, take-suc ts i empty_task below) (map-append task_view (take i ts) (get_or ts i empty_task ∷ [])) in
    let number : 1 + length (tasks_of ts i) ≡ i + 1 = omega (arith, tasks-length ts i (omega (arith, below))) in
    ap (λ us. lock_bytes us 1) split ∙ lock_bytes-append (tasks_of ts i) (t ∷ []) 1 ∙ ap (λ (n : ℕ). lock_bytes (tasks_of ts i) 1 ++ lock_bytes (t ∷ []) n) number

-- those of fewer tasks are no longer
locks_rise : (ts : List Task) (i k : ℕ) → i + k ≤ length ts → length (lock_bytes (tasks_of ts i) 1) ≤ length (lock_bytes (tasks_of ts (i + k)) 1)
locks_rise ts i zero h = omega (arith, ap (λ (n : ℕ). length (lock_bytes (tasks_of ts n) 1)) (add-zero i))
locks_rise ts i (suc k) h =
    let t = task_view (get_or ts (i + k) empty_task) in
    let place : i + k + 1 ≡ i + suc k = omega arith in
    omega (
      arith,
      locks_rise ts i k (omega (arith, h)),
      ap length (lock-next ts (i + k) (omega (arith, h))),
      length-append (lock_bytes (tasks_of ts (i + k)) 1) (lock_bytes (t ∷ []) (i + k + 1)),
      ap (λ (n : ℕ). length (lock_bytes (tasks_of ts n) 1)) place,
    )

-- so the lock of each fits where all do
pub lock-fits : (ts : List Task) (n i : ℕ) → i < n → n ≤ length ts →
    length (lock_bytes (tasks_of ts i) 1) + length (lock_bytes (task_view (get_or ts i empty_task) ∷ []) (i + 1)) ≤ length (lock_bytes (tasks_of ts n) 1)
lock-fits ts n i h fits =
    let t = task_view (get_or ts i empty_task) in
    let place : i + 1 + (n - (i + 1)) ≡ n = omega (arith, h) in
    omega (
      arith,
      locks_rise ts (i + 1) (n - (i + 1)) (omega (arith, place, fits)),
      ap length (lock-next ts i (omega (arith, h, fits))),
      length-append (lock_bytes (tasks_of ts i) 1) (lock_bytes (t ∷ []) (i + 1)),
      ap (λ (k : ℕ). length (lock_bytes (tasks_of ts k) 1)) place,
    )

-- ---- the tasks that a slice shows

module _ (ts : List Task) where
  pub shown : (us : List model.Task) → map task_view ts ≡ us → tasks_of ts (length ts) ≡ us
  shown us e = ap (map task_view) (take_all (length ts) ts (omega arith)) ∙ e

  pub shown-count : (t : TaskList) → map task_view ts ≡ list_of t → length ts ≡ t.count
  shown-count t e = sym (length-map ts task_view) ∙ ap length e ∙ tasks-size t

-- ---- written one after another

module _ {m n l : List ℕ} {at end last : ℕ} where
  -- one task more
  pub tasks-more : (e : Edition) (ts : List Task) (i : ℕ) → i < length ts → Put m n at (flat_map (task_bytes e) (tasks_of ts i)) end →
      Put n l end (task_bytes e (task_view (get_or ts i empty_task))) last → last ≤ length m →
      Put m l at (flat_map (task_bytes e) (tasks_of ts (i + 1))) last
  tasks-more e ts i below h g fits =
      rw (add-one i, take-suc ts i empty_task below, map-append, flat_map-append, append-nil) (put_then h g fits)

  -- one lock more
  pub locks-more : (ts : List Task) (i : ℕ) → i < length ts → Put m n at (lock_bytes (tasks_of ts i) 1) end →
      Put n l end (lock_bytes (task_view (get_or ts i empty_task) ∷ []) (i + 1)) last → last ≤ length m →
      Put m l at (lock_bytes (tasks_of ts (i + 1)) 1) last
  locks-more ts i below h g fits = put_as (sym (lock-next ts i below)) (put_then h g fits)

  -- one pair more
  pub arcs-more : (next : List ℕ) (k : ℕ) → Put m n at (flat_map arc_bytes (arcs_below next k)) end →
      Put n l end (flat_map arc_bytes (arc_at k (get_or next k 0))) last → last ≤ length m →
      Put m l at (flat_map arc_bytes (arcs_below next (k + 1))) last
  arcs-more next k h g fits = rw (add-one k, flat_map-append) (put_then h g fits)

-- ---- the arc of a pair

pub pair_bytes : (k e : ℕ) → 0 < e → flat_map arc_bytes (arc_at k e) ≡ 0x04 ∷ (k / label_count) ∷ (k % label_count) ∷ (e - 1) ∷ []
pair_bytes k zero h = absurd (omega arith)
pair_bytes k (suc t) h = ap (λ (x : ℕ). 0x04 ∷ (k / label_count) ∷ (k % label_count) ∷ x ∷ []) (omega arith)
