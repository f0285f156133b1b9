-- What the cells of a node's jobs, the rules and a slot's result stand for.
use Rattle.std.specs.Prelude.{◌≡◌, Bool, false, cond, not, ◌&&◌, List, [], ◌++◌, map, ℕ, zero, suc, ◌+◌, ◌-◌, ◌*◌, ◌/◌, ◌%◌, ◌<◌, ◌≤◌, eqb, ltb, length, get_or, set}
use Rattle.std.proofs.Math.Option.{Option, none, some}
use Rattle.model.specs.Limits.{max_tasks, max_window, max_value}
use Rattle.model.specs.Lists.{cons_if, flat_map, up_from, bit}
use Rattle.model.specs.Plan as model
use Rattle.model.specs.Slot as model_slot
use Rattle.model.specs.Slot.{Job, JobId, no_task, edf, srt, fifo}
use Rattle.std.specs.Prelude as rust
use Rattle.std.specs.Prelude.{IfSome, None, Some}
use Rattle.plan.specs.View.{list_of}
use Rattle.plan.specs.declared.tasks.Plan.{Plan}
use Rattle.policy.specs.declared.Rules.{Rules}
use Rattle.policy.specs.declared.Done.{Done}
use Rattle.policy.specs.declared.Policy.{Policy}
use Rattle.policy.specs.declared.Policy.TheVariants.{Edf, Srt, Fifo, Sp}

abbrev pub Tasks : Type 0
Tasks = List model.Task

-- the cells between slots, where no job has age 0, and during a slot, where the new jobs are the last
abbrev pub cell_count : ℕ
cell_count = max_tasks * (max_window - 1)

abbrev pub slot_cells : ℕ
slot_cells = max_tasks * max_window

-- of a job in the cell k: the task's number and place, and the age, the slots since its release
abbrev pub task_in : ℕ → ℕ
task_in k = suc (k % max_tasks)

abbrev pub task_at : Tasks → ℕ → model.Task
task_at ts k = get_or ts (k % max_tasks) no_task

abbrev pub age_in : ℕ → ℕ
age_in k = max_window - suc (k / max_tasks)

abbrev pub left_in : Tasks → ℕ → ℕ
left_in ts k = (task_at ts k).window - age_in k

abbrev pub left_table : Tasks → List ℕ
left_table ts = map (left_in ts) (up_from 0 slot_cells)

-- the work below which a job in the cell k is held: all of a locked task's, and none of another's
abbrev pub hold_in : Tasks → ℕ → ℕ
hold_in ts k = cond (task_at ts k).locked (task_at ts k).work 0

abbrev pub hold_table : Tasks → List ℕ
hold_table ts = map (hold_in ts) (up_from 0 slot_cells)

-- the job of the cell k with so much work remaining, and none where there is no work
abbrev pub job_in : Tasks → ℕ → ℕ → Job
job_in ts k w = record { task = task_in k; work = w; left = left_in ts k }

abbrev pub jobs_in : Tasks → ℕ → ℕ → List Job
jobs_in ts k w = cons_if (ltb 0 w) (job_in ts k w) []

-- the jobs of the cells, in the cells' order
unfoldable pub jobs_of : Tasks → List ℕ → List Job
jobs_of ts cells = flat_map (λ k. jobs_in ts k (get_or cells k 0)) (up_from 0 (length cells))

-- "1 ≤ C ≤ D ≤" the longest window, and V from 1 to its limit
pub record InRange (t : model.Task) : Type 0 where
  pub work : 1 ≤ t.work
  pub within : t.work ≤ t.window
  pub window : t.window ≤ max_window
  pub some_value : 1 ≤ t.value
  pub value : t.value ≤ max_value

pub record TasksInRange (ts : Tasks) : Type 0 where
  pub count : length ts ≤ max_tasks
  pub each : (i : ℕ) → i < length ts → InRange (get_or ts i no_task)

-- n cells that a node can hold: the work of a job is at most its task's, and it has slots left
pub record Cells (ts : Tasks) (n : ℕ) (cells : List ℕ) : Type 0 where
  pub size : length cells ≡ n
  pub work : (k : ℕ) → get_or cells k 0 ≤ (task_at ts k).work
  pub left : (k : ℕ) → 0 < get_or cells k 0 → 0 < left_in ts k

-- n cells that stand for the jobs js
pub record Leaves (ts : Tasks) (js : List Job) (n : ℕ) (after : List ℕ) : Type 0 where
  pub jobs : jobs_of ts after ≡ js
  pub cells : Cells ts n after

-- The steps of a slot on cells, where left has the slots left of a job in each cell, and hold the work below which it is held.

-- the work of a new job of the task at i, 0 where the label has none
abbrev pub new_work : Tasks → ℕ → ℕ → ℕ
new_work ts l i = cond (bit l i) (get_or ts i no_task).work 0

-- 1. "The new jobs join with C slots of work remaining": the cells, and then one for each task.
unfoldable pub joined_cells : Tasks → List ℕ → ℕ → List ℕ
joined_cells ts cells l = cells ++ map (new_work ts l) (up_from 0 max_tasks)

-- the policies' keys, each as one number that orders as the key does
abbrev pub key_number : ℕ → ℕ → ℕ → ℕ
key_number high task low = (high * suc max_tasks + task) * suc max_window + low

unfoldable pub key_in : ℕ → ℕ → ℕ → ℕ → ℕ
key_in policy k work left =
    cond (eqb policy edf) (key_number left (task_in k) 0)
    (cond (eqb policy srt) (key_number work (task_in k) left)
    (cond (eqb policy fifo) (key_number (max_window - age_in k) (task_in k) 0)
    (key_number 0 (task_in k) left)))

-- the numbers that a policy has
abbrev pub StandsFor : ℕ → Policy → Type 0
StandsFor n Edf = n ≡ edf
StandsFor n Srt = n ≡ srt
StandsFor n Fifo = n ≡ fifo
StandsFor n Sp = (eqb n edf ≡ false) × (eqb n srt ≡ false) × (eqb n fifo ≡ false)

-- a key with its cell, which is below places; `no_code` where there is no job
abbrev pub places : ℕ
places = 64

abbrev pub no_code : ℕ
no_code = 4294967295

unfoldable pub code_in : ℕ → ℕ → ℕ → ℕ → ℕ
code_in policy k work left = cond (eqb work 0) no_code (key_in policy k work left * places + k)

abbrev pub code_at : ℕ → List ℕ → List ℕ → ℕ → ℕ
code_at policy cells left k = code_in policy k (get_or cells k 0) (get_or left k 0)

-- the least of f 0 to f (n − 1), `no_code` where there is none
unfoldable pub least_code : (ℕ → ℕ) → ℕ → ℕ
least_code f zero = no_code
least_code f (suc n) = cond (ltb (f n) (least_code f n)) (f n) (least_code f n)

-- the cell of a code, `slot_cells` of `no_code`
abbrev pub cell_of : ℕ → ℕ
cell_of code = cond (eqb code no_code) slot_cells (code % places)

-- 3. "the first by the policy's key": the cell of the least code, `slot_cells` where there is no job.
unfoldable pub first_cell : ℕ → List ℕ → List ℕ → ℕ
first_cell policy cells left = cell_of (least_code (code_at policy cells left) slot_cells)

-- the cells with the jobs that are held alone
abbrev pub held_in : List ℕ → List ℕ → ℕ → ℕ
held_in cells hold k = cond (ltb (get_or cells k 0) (get_or hold k 0)) (get_or cells k 0) 0

unfoldable pub held_cells : List ℕ → List ℕ → List ℕ
held_cells cells hold = map (held_in cells hold) (up_from 0 slot_cells)

-- the greatest of f 0 to f (n − 1), 0 where there is none
unfoldable pub greatest : (ℕ → ℕ) → ℕ → ℕ
greatest f zero = 0
greatest f (suc n) = cond (ltb (greatest f n) (f n)) (f n) (greatest f n)

unfoldable pub has_job : List ℕ → Bool
has_job cells = ltb 0 (greatest (λ k. get_or cells k 0) slot_cells)

-- "a locked job that has begun and is unfinished runs before all others": the first is of those that are held, if any is, or else of all
unfoldable pub runnable_cells : List ℕ → List ℕ → List ℕ
runnable_cells cells hold = let held = held_cells cells hold in cond (has_job held) held cells

-- 3. It "runs one slot. Work falls by 1."
abbrev pub worked_in : List ℕ → ℕ → List ℕ
worked_in cells at = set cells at (get_or cells at 0 - 1)

-- 4. "Slots left falls by 1 ..; at 0 the job goes": the cells from the second row on, where more than one slot is left.
abbrev pub staying_in : List ℕ → List ℕ → ℕ → ℕ
staying_in cells left k = cond (ltb 1 (get_or left k 0)) (get_or cells k 0) 0

unfoldable pub aged : List ℕ → List ℕ → List ℕ
aged cells left = map (staying_in cells left) (up_from max_tasks cell_count)

-- the number of the task whose job is in the cell k, 0 from `slot_cells` on
abbrev pub task_number : ℕ → ℕ
task_number k = cond (ltb k slot_cells) (task_in k) 0

-- "the one that ran in the slot before, if that is unfinished, still present and not chosen now", by cells: its task's number, 0 for none.
-- What was in the cell ran is a row further up now, and gone from the first row; at is the cell that is chosen now.
unfoldable pub displaced_task : List ℕ → ℕ → ℕ → ℕ
displaced_task cells ran at =
    let up = ran - max_tasks in
    cond (ltb ran slot_cells && not (ltb ran max_tasks) && ltb 0 (get_or cells up 0) && not (eqb up at)) (task_in up) 0

-- the tasks of the rules, and the tables by them
abbrev pub tasks_in : Rules → Tasks
tasks_in r = list_of r.tasks

pub record Ruled (r : Rules) : Type 0 where
  pub tasks : TasksInRange (tasks_in r)
  pub size : length (tasks_in r) ≡ r.tasks.count
  pub left : r.left ≡ left_table (tasks_in r)
  pub hold : r.hold ≡ hold_table (tasks_in r)

-- the plans that the rules are of
pub record PlanFor (P : model.Plan) (r : Rules) : Type 0 where
  pub tasks : P.tasks ≡ tasks_in r
  pub policy : P.policy ≡ r.policy

-- the rules of a plan
pub record RulesOf (p : Plan) (r : Rules) : Type 0 where
  pub ruled : Ruled r
  pub tasks : tasks_in r ≡ list_of p.tasks
  pub policy : r.policy ≡ p.policy

-- a cell's number, `slot_cells` for no cell
abbrev pub cell_number : rust.Option ℕ → ℕ
cell_number None = slot_cells
cell_number (Some k) = k

-- which job ran in the cell k, by its slots left after the slot; none from `slot_cells` on
abbrev pub ran_in : Tasks → ℕ → Option JobId
ran_in ts k = cond (ltb k slot_cells) (some (record { task = task_in k; left = left_in ts k - 1 })) none

abbrev pub done_of : Tasks → Done → model_slot.Done
done_of ts d = record { jobs = jobs_of ts d.cells; ran = ran_in ts (cell_number d.ran); gain = d.gain }

-- what a slot leaves is the rule's, and cells again; a job ran in the cell of the first
pub record Slotted (r : Rules) (before : List ℕ) (label : ℕ) (d : Done) : Type 0 where
  pub rule : (P : model.Plan) → P.tasks ≡ tasks_in r → P.policy ≡ r.policy → done_of (tasks_in r) d ≡ model_slot.slot P (jobs_of (tasks_in r) before) label
  pub cells : Cells (tasks_in r) cell_count d.cells
  pub ran : cell_number d.ran ≡ first_cell r.policy (runnable_cells (joined_cells (tasks_in r) before label) r.hold) r.left

-- and `ran` is None where no job ran
pub record SlottedBelow (r : Rules) (before : List ℕ) (label : ℕ) (d : Done) : Type 0 where
  pub slotted : Slotted r before label d
  pub below : IfSome d.ran (λ k. k < slot_cells)
