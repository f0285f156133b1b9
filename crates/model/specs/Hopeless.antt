-- What the policies do with a job that can't finish.
use Rattle.std.specs.Prelude.{◌≡◌, ℕ, ◌-◌, ◌<◌, ◌≤◌, true, ◌⊎◌, length}
use mathlib.Core.List.{List, [], ◌∷◌, Memᴰ}
use Rattle.std.proofs.Math.Option.{Option, none, some}
use Rattle.model.specs.Plan.{Plan}
use Rattle.model.specs.Slot.{Job, id_of, key_below, worked, tick, ready, key_of, chosen_in, slot, jobs_after}

-- a job "that can't finish": it is still there, with more work remaining than slots left
pub record Hopeless (j : Job) : Type 0 where
  pub present : 0 < j.left
  pub short : j.left < j.work

-- a job after steps 3 and 4 of a slot that chose this job, if any
abbrev pub after_choice : Option Job → Job → Job
after_choice none j = tick j
after_choice (some chosen) j = tick (worked chosen j)

-- a job of js after the slots of the labels, whether it is still there or not
abbrev pub job_after : Plan → List Job → Job → List ℕ → Job
job_after P js j [] = j
job_after P js j (l ∷ ls) = job_after P (slot P js l).jobs (after_choice (chosen_in P js l) j) ls

-- the job j is the first of js by the key: it is below that of every other
abbrev pub IsFirst : (Job → List ℕ) → Job → List Job → Type 0
IsFirst k j js = (i : Job) → Memᴰ i js → (i ≡ j) ⊎ (key_below (k j) (k i) ≡ true)

-- It "may be chosen, runs, gains nothing", in a slot with any label: the job j of js is chosen where it is the first by the policy's key,
-- and where it is chosen it runs and nothing is gained.
pub record Unpaid (P : Plan) (js : List Job) (j : Job) : Type 0 where
  pub chosen : (l : ℕ) → IsFirst (key_of P) j (ready P js l) → chosen_in P js l ≡ some j
  pub runs : (l : ℕ) → chosen_in P js l ≡ some j → ((slot P js l).ran ≡ some (id_of (tick j))) × ((slot P js l).gain ≡ 0)

-- "a job that can't finish may be chosen, runs, gains nothing, and leaves when its slots left reach 0", whatever labels follow
pub record StaysUnpaid (P : Plan) (js : List Job) (j : Job) : Type 0 where
  pub stays : (ls : List ℕ) → length ls < j.left → Memᴰ (job_after P js j ls) (jobs_after P js ls)
  pub hopeless : (ls : List ℕ) → length ls < j.left → Hopeless (job_after P js j ls)
  pub unpaid : (ls : List ℕ) → length ls < j.left → Unpaid P (jobs_after P js ls) (job_after P js j ls)
  pub falls : (ls : List ℕ) → (job_after P js j ls).left ≡ j.left - length ls
  pub leaves : (ls : List ℕ) → j.left ≤ length ls → Memᴰ (job_after P js j ls) (jobs_after P js ls) → ⊥
