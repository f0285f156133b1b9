-- A slot of a policy.
use Rattle.std.specs.Prelude.{ℕ, suc, ◌-◌, ◌/◌, ◌%◌, Bool, false, cond, not, ◌&&◌, ◌||◌, ltb, eqb, get_or}
use mathlib.Core.List.{List, [], ◌∷◌, ◌++◌, map, foldl}
use Rattle.std.proofs.Math.Option.{Option, none, some}
use Rattle.model.specs.Lists.{cons_if, keep, any, list_of}
use Rattle.model.specs.Plan.{Task, Plan}

-- a job of the policy: its task (numbered from 1), work remaining and slots left
pub record Job : Type 0 where
  pub task : ℕ
  pub work : ℕ
  pub left : ℕ

abbrev pub no_task : Task
no_task = record { work = 0; window = 0; value = 0; locked = false }

-- "tasks numbered from 1"
abbrev pub task_of : List Task → ℕ → Task
task_of ts i = get_or ts (i - 1) no_task

-- 1. "The new jobs join with C slots of work remaining and D slots left." The list is of the tasks from number i on, with their bits of the label.
abbrev pub new_jobs : List Task → ℕ → ℕ → List Job
new_jobs [] l i = []
new_jobs (t ∷ ts) l i = cons_if (eqb (l % 2) 1) (record { task = i; work = t.work; left = t.window }) (new_jobs ts (l / 2) (suc i))

-- the policies' numbers
abbrev pub edf : ℕ
edf = 1

abbrev pub srt : ℕ
srt = 2

abbrev pub fifo : ℕ
fifo = 3

-- a number of slots that no window has: D is one byte, in every edition
abbrev pub long_ago : ℕ
long_ago = 256

-- the release slot, counted from so many slots ago: of D slots, D − left have passed
abbrev pub release_slot : List Task → Job → ℕ
release_slot ts j = long_ago - ((task_of ts j.task).window - j.left)

-- "EDF (slots left, task); SRT (work remaining, task, slots left); FIFO (release slot, task); SP (task, slots left)"
unfoldable pub policy_key : List Task → ℕ → Job → List ℕ
policy_key ts policy j =
    cond (eqb policy edf) (j.left ∷ j.task ∷ [])
    (cond (eqb policy srt) (j.work ∷ j.task ∷ j.left ∷ [])
    (cond (eqb policy fifo) (release_slot ts j ∷ j.task ∷ [])
    (j.task ∷ j.left ∷ [])))

abbrev pub unfinished : Job → Bool
unfinished j = ltb 0 j.work

-- it has run: a job joins with C slots of work
abbrev pub begun : List Task → Job → Bool
begun ts j = ltb j.work (task_of ts j.task).work

-- "a locked job that has begun and is unfinished"
abbrev pub held : List Task → Job → Bool
held ts j = (task_of ts j.task).locked && begun ts j && unfinished j

-- "Under every policy a locked job that has begun and is unfinished runs before all others": the others by the policy's key
unfoldable pub key : List Task → ℕ → Job → List ℕ
key ts policy j = cond (held ts j) 0 1 ∷ policy_key ts policy j

-- "smallest first": the order of keys, part by part
abbrev pub key_below : List ℕ → List ℕ → Bool
key_below [] ys = false
key_below (x ∷ xs) [] = false
key_below (x ∷ xs) (y ∷ ys) = ltb x y || (eqb x y && key_below xs ys)

-- the first by the key, of the first so far and the next
abbrev pub sooner : (Job → List ℕ) → Option Job → Job → Option Job
sooner k none j = some j
sooner k (some m) j = some (cond (key_below (k j) (k m)) j m)

-- "the first by the policy's key", if any job is left
unfoldable pub first : (Job → List ℕ) → List Job → Option Job
first k js = foldl (sooner k) none js

-- which job it is: a task's jobs are released in different slots, so its slots left tell them apart
pub record JobId : Type 0 where
  pub task : ℕ
  pub left : ℕ

abbrev pub id_of : Job → JobId
id_of j = record { task = j.task; left = j.left }

abbrev pub has_id : JobId → Job → Bool
has_id i j = eqb i.task j.task && eqb i.left j.left

-- the same job
abbrev pub is_job : Job → Job → Bool
is_job j k = has_id (id_of j) k

-- 3. the first "runs one slot. Work falls by 1."
abbrev pub worked : Job → Job → Job
worked chosen j = record { task = j.task; work = cond (is_job chosen j) (j.work - 1) j.work; left = j.left }

-- 4. "Slots left falls by 1 for every other job, and for the one that ran if it isn't done; at 0 the job goes."
abbrev pub tick : Job → Job
tick j = record { task = j.task; work = j.work; left = j.left - 1 }

abbrev pub stays : Job → Bool
stays j = unfinished j && ltb 0 j.left

-- what a slot leaves: the jobs, which job ran, if any, by its slots left after the slot, and the slot's gain
pub record Done : Type 0 where
  pub jobs : List Job
  pub ran : Option JobId
  pub gain : ℕ

-- "At 0 the job is done and V is gained in this slot."
abbrev pub run_first : List Task → List Job → Option Job → Done
run_first ts js none = record { jobs = keep stays (map tick js); ran = none; gain = 0 }
run_first ts js (some chosen) = record {
  jobs = keep stays (map tick (map (worked chosen) js));
  ran = some (id_of (tick chosen));
  gain = cond (eqb chosen.work 1) (task_of ts chosen.task).value 0;
}

-- The jobs that step 1 leaves. "Step 2 of the slot rule goes": all of them wait for step 3, those that can't finish too.
unfoldable pub ready : Plan → List Job → ℕ → List Job
ready P js l = js ++ new_jobs P.tasks l 1

-- the key of a job by the plan's locks and policy
abbrev pub key_of : Plan → Job → List ℕ
key_of P j = key P.tasks P.policy j

-- 3. "If any job is left, the first by the policy's key runs one slot", a held one "before all others".
abbrev pub chosen_in : Plan → List Job → ℕ → Option Job
chosen_in P js l = first (key_of P) (ready P js l)

-- one slot with a label, from the jobs that the slot before left
unfoldable pub slot : Plan → List Job → ℕ → Done
slot P js l = run_first P.tasks (ready P js l) (chosen_in P js l)

-- the jobs that the slots of the labels leave: "each label finds .. the jobs that the label before it left"
abbrev pub jobs_after : Plan → List Job → List ℕ → List Job
jobs_after P js [] = js
jobs_after P js (l ∷ ls) = jobs_after P (slot P js l).jobs ls

-- ---- the job that is displaced

-- "Choosing the next job must also say which job it displaces: the one that ran in the slot before, if that is unfinished, still present
-- and not chosen now." The list is of the jobs that the slot finds.
abbrev pub displaced : Option JobId → List Job → Option Job → Option JobId
displaced none js chosen = none
displaced (some ran) js chosen =
    let present = any (λ j. has_id ran j && unfinished j) js in
    let runs_on = any (has_id ran) (list_of chosen) in
    cond (present && not runs_on) (some ran) none

-- by the choice of a slot with a label, where this job ran in the slot before
abbrev pub displaced_in : Plan → Option JobId → List Job → ℕ → Option JobId
displaced_in P ran js l = displaced ran js (chosen_in P js l)
