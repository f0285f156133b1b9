-- Who was interrupted: what a trace's column `cut` says of a run.
use Rattle.std.specs.Prelude.{◌≡◌, ℕ, suc, ◌+◌, ◌*◌, ◌<◌, true, false, length, get_or, take}
use mathlib.Core.List.{List, [], Memᴰ}
use Rattle.std.proofs.Math.Option.{Option, some}
use Rattle.model.specs.Plan.{Plan}
use Rattle.model.specs.Slot.{Job, JobId, task_of, has_id, worked, tick, chosen_in, slot, jobs_after}
use Rattle.model.specs.Trace.{row_size}

-- What is displaced is the job that ran in the slot before. It is among the jobs js that the slot finds, unfinished, and is never the one
-- that runs.
pub record Displaced (ran : Option JobId) (js : List Job) (chosen : Option Job) (i : JobId) : Type 0 where
  pub before : ran ≡ some i
  pub found : (j : Job) × Memᴰ j js × (has_id i j ≡ true) × (0 < j.work)
  pub other : (c : Job) → chosen ≡ some c → has_id i c ≡ false

-- The slot of the label k finds the jobs js, and the slot after it has the label l. In the latter the job j is displaced: "the one that
-- ran in the slot before, if that is unfinished, still present and not chosen now".
pub record Interrupted (P : Plan) (js : List Job) (k l : ℕ) (j : Job) : Type 0 where
  pub ran : (c : Job) × (chosen_in P js k ≡ some c) × (j ≡ tick (worked c c))
  pub unfinished : 0 < j.work
  pub present : Memᴰ j (slot P js k).jobs
  pub waits : chosen_in P (slot P js k).jobs l ≡ some j → ⊥

-- in the slot t + 1 of a run
abbrev pub InterruptedAfter : Plan → List ℕ → ℕ → Job → Type 0
InterruptedAfter P run t j = Interrupted P (jobs_after P [] (take t run)) (get_or run t 0) (get_or run (suc t) 0) j

-- "a last column `cut` with the displaced job's task, 0 for none", told of each slot: nobody in the first one, and in every later one the job
-- that is displaced; a locked job, "once begun, runs to its end", so none of them is
pub record TellsCuts (P : Plan) (run : List ℕ) (cut : ℕ → ℕ) : Type 0 where
  pub first : 0 < length run → cut 0 ≡ 0
  pub told : (t : ℕ) → suc t < length run → (j : Job) → InterruptedAfter P run t j → (cut (suc t) ≡ j.task) × (0 < j.task)
  pub only : (t : ℕ) → suc t < length run → 0 < cut (suc t) → (j : Job) × InterruptedAfter P run t j × (cut (suc t) ≡ j.task)
  pub unlocked : (t : ℕ) → suc t < length run → 0 < cut (suc t) → (task_of P.tasks (cut (suc t))).locked ≡ false

-- "the trace call writes it as a fourth byte for each label"
abbrev pub cut_in : List ℕ → ℕ → ℕ
cut_in out t = get_or out (row_size * t + 3) 0
