-- Locked tasks: what a lock does over a run, and what a plan without locks keeps.
use Rattle.std.specs.Prelude.{◌≡◌, ℕ, ◌<◌, Bool, true}
use mathlib.Core.List.{List, [], ◌∷◌, ◌++◌, Memᴰ}
use Rattle.std.proofs.Math.Option.{some}
use Rattle.model.specs.Plan.{Plan}
use Rattle.model.specs.Slot.{Job, task_of, policy_key, held, key_of, first, worked, tick, chosen_in, jobs_after}
use Rattle.model.specs.Masks.{free_masks, masks_of}
use Rattle.model.specs.Schedule.{Unbroken}
use Rattle.model.specs.PlanBytes.{lock_bytes}

-- ---- over a run

-- the job is among those that the slots of the labels leave, and is held
pub record HeldAfter (P : Plan) (run : List ℕ) (j : Job) : Type 0 where
  pub present : Memᴰ j (jobs_after P [] run)
  pub holds : held P.tasks j ≡ true

-- "A focus sweep, once begun, runs to its end."
pub record RunsToItsEnd (P : Plan) : Type 0 where
  -- a job that is held runs in the next slot, whatever that slot releases,
  pub runs : (run : List ℕ) (j : Job) → HeldAfter P run j → (l : ℕ) → chosen_in P (jobs_after P [] run) l ≡ some j
  -- and is held after it, "until it is done or its deadline removes it"
  pub on : (run : List ℕ) (j : Job) → HeldAfter P run j → (l : ℕ) → 1 < j.work → 1 < j.left → HeldAfter P (run ++ (l ∷ [])) (tick (worked j j))
  -- there is at most one
  pub one : (run : List ℕ) (j k : Job) → HeldAfter P run j → HeldAfter P run k → j ≡ k

-- ---- without locks

-- no task is locked: the bytes of the plan have no `09`
abbrev pub Unlocked : Plan → Type 0
Unlocked P = lock_bytes P.tasks 1 ≡ []

-- The policy chooses by its key alone, the clairvoyant's masks are all that fit a task, and a schedule asks for no neighbours.
pub record AsWithoutLocks (P : Plan) : Type 0 where
  pub chosen : (js : List Job) → first (key_of P) js ≡ first (policy_key P.tasks P.policy) js
  pub masks : (i : ℕ) (released : Bool) (taken : ℕ) → masks_of (task_of P.tasks i) released taken ≡ free_masks (task_of P.tasks i) released taken
  pub schedules : (picks : ℕ → ℕ → Bool) (gives : ℕ → ℕ → ℕ → Bool) → Unbroken P.tasks picks gives

-- "a plan without `09` has the fraction it had"
abbrev pub KeepsItsFraction : Type 0
KeepsItsFraction = (P : Plan) → Unlocked P → AsWithoutLocks P
