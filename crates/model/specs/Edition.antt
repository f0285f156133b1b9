-- The editions of plan and certificate bytes: the numbers in which they differ.
use Rattle.std.specs.Prelude.{ℕ, ◌+◌, ◌*◌, ◌^◌, ◌≤◌, ◌<◌, Bool, true, false, cond}
use Rattle.model.specs.Limits.{max_tasks, max_window, max_value, max_states}

pub record Edition : Type 0 where
  pub window : ℕ  -- the longest window D
  pub value : ℕ  -- the largest V
  pub value_width : ℕ  -- the bytes of V in a plan
  pub mask_width : ℕ  -- the bytes of a mask in a certificate's step
  pub locks : Bool  -- whether it has the command `09`

-- "1 ≤ C ≤ D ≤ 8, V 1 to 255": V is one byte, and so is each mask in a certificate step; "in a first-edition plan `09` stays an unknown
-- command"
abbrev pub first_edition : Edition
first_edition = record { window = 8; value = 255; value_width = 1; mask_width = 1; locks = false }

-- "V becomes two bytes (1 to 65,535), D goes to 10, and each mask in a certificate step becomes two bytes." "In a long-read plan, command
-- `09` with a task number locks that task".
abbrev pub long_reads : Edition
long_reads = record { window = max_window; value = max_value; value_width = 2; mask_width = 2; locks = true }

-- every V and every mask of the edition fits its bytes
pub record WideEnough (e : Edition) : Type 0 where
  pub values : e.value < 256 ^ e.value_width
  pub masks : 2 ^ e.window ≤ 256 ^ e.mask_width

-- the bytes of `01` C D V
abbrev pub task_width : Edition → ℕ
task_width e = 3 + e.value_width

-- the most bytes of a task with its lock, `09` and its number, in an edition that has locks
abbrev pub locked_width : Edition → ℕ
locked_width e = task_width e + cond e.locks 2 0

-- "the longest plan of the edition": four tasks, each locked if the edition has locks, policy, states, an arc for each pair of a state and a
-- label, end
abbrev pub plan_room_in : Edition → ℕ
plan_room_in e = max_tasks * locked_width e + 2 + 2 + 4 * (max_states * 2 ^ max_tasks) + 1

abbrev pub plan_room : ℕ
plan_room = plan_room_in long_reads
