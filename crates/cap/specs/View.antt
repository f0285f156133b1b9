-- What the structs of a cap stand for, and what its functions promise.
use Rattle.std.specs.Prelude as rust
use Rattle.std.specs.Prelude.{Ok, Err, Some, None}
use Rattle.std.specs.Prelude.{◌≡◌, true, List, ◌++◌, map, ℕ, ◌+◌, ◌-◌, ◌^◌, ◌≤◌, ◌<◌, length, drop, replicate}
use Rattle.model.specs.Limits.{max_cap_slots}
use Rattle.model.specs.Lists.{up_from}
use Rattle.model.specs.Plan.{Task, Plan, sound, read_plan}
use Rattle.model.specs.Cap.{CapAnswer, refused, over, kept, label_work, work_of, cap_run, cap_in_range, cap, Exact}
use Rattle.plan.specs.View.{label_count}
use Rattle.refusals.specs.Numbers.{refusal_number}
use Rattle.refusals.specs.declared.Refusal.{Refusal}
use Rattle.cap.specs.declared.Cap.{Cap}
use Rattle.cap.specs.declared.Watch.{Watch}
use Rattle.cap.specs.declared.Window.{Window}

-- what is told of a log
abbrev pub Answer : Type 0
Answer = rust.Result (rust.Option ℕ) Refusal

abbrev pub answer_of : Answer → CapAnswer
answer_of (Err r) = refused (refusal_number r)
answer_of (Ok (Some t)) = over t
answer_of (Ok None) = kept

-- ---- the cap

-- the cap of k slots and w units of work, for these tasks
pub record CapOf (ts : List Task) (k w : ℕ) (c : Cap) : Type 0 where
  pub works : c.works ≡ map (label_work ts) (up_from 0 label_count)
  pub labels : c.labels ≡ 2 ^ length ts
  pub few : 2 ^ length ts ≤ label_count
  pub slots : c.slots ≡ k
  pub most : c.most ≡ w
  pub ranged : cap_in_range k w ≡ true

-- ---- the window after the labels of a log

-- how many of the last labels it has: as many as a cap can ask for
abbrev pub places : ℕ
places = max_cap_slots

-- a log with empty labels before its first, which release nothing: "or all so far if fewer"
abbrev pub padded : List ℕ → List ℕ
padded log = replicate places 0 ++ log

-- how many labels there are, the work of the last k slots, and the last labels
pub record Shows (ts : List Task) (k : ℕ) (log : List ℕ) (v : Window) : Type 0 where
  pub slots : v.slots ≡ length log
  pub sum : v.sum ≡ work_of ts (drop (length log - k) log)
  pub last : v.last ≡ drop (length log) (padded log)

-- before the first label
abbrev pub no_labels : Window
no_labels = record { slots = 0; sum = 0; last = replicate places 0 }

-- ---- a log that goes on

-- the log keeps the cap so far, and the window is its
pub record Going (ts : List Task) (k w : ℕ) (log : List ℕ) (c : Cap) (v : Window) : Type 0 where
  pub of : CapOf ts k w c
  pub so_far : cap_run ts k w log ≡ kept
  pub shows : Shows ts k log v

-- the answer for the log; and while it is `kept` the log can go on
pub record Follows (ts : List Task) (k w : ℕ) (log : List ℕ) (c : Cap) (s : Watch) : Type 0 where
  pub answer : answer_of s.answer ≡ cap_run ts k w log
  pub going : s.answer ≡ Ok None → Going ts k w log c s.window

-- a window from which so many labels more can be counted
pub record Room (c : Cap) (v : Window) (n : ℕ) : Type 0 where
  pub tasks : List Task
  pub slots : ℕ
  pub work : ℕ
  pub log : List ℕ
  pub going : Going tasks slots work log c v
  pub fits : length log + n < 2 ^ 64

-- what is known after more labels, whatever came before them
abbrev pub Scans : Cap → Window → List ℕ → Watch → Type 0
Scans c v labels s = (ts : List Task) (k w : ℕ) (log : List ℕ) → Going ts k w log c v → Follows ts k w (log ++ labels) c s

-- ---- the same for plan bytes

-- the plan is sound, and the log keeps the cap so far
pub record Goes (plan : List ℕ) (k w : ℕ) (log : List ℕ) (c : Cap) (v : Window) : Type 0 where
  pub plan-read : Plan
  pub read : read_plan plan ≡ sound plan-read
  pub going : Going plan-read.tasks k w log c v

-- the definition's answer for the log; and while it is `kept` the log can go on
pub record Watched (plan : List ℕ) (k w : ℕ) (log : List ℕ) (c : Cap) (s : Watch) : Type 0 where
  pub answer : answer_of s.answer ≡ cap plan log k w
  pub going : s.answer ≡ Ok None → Goes plan k w log c s.window

-- every log is refused
abbrev pub Refuses : List ℕ → ℕ → ℕ → Refusal → Type 0
Refuses plan k w r = (log : List ℕ) → cap plan log k w ≡ refused (refusal_number r)

-- so many labels more can be counted
pub record Watching (c : Cap) (s : Watch) (n : ℕ) : Type 0 where
  pub plan : List ℕ
  pub slots : ℕ
  pub work : ℕ
  pub log : List ℕ
  pub watched : Watched plan slots work log c s
  pub fits : length log + n < 2 ^ 64

-- what is known of a log with more labels behind it: so "the lent label log of a whole run" may be lent in parts
abbrev pub Feeds : Cap → Watch → List ℕ → Watch → Type 0
Feeds c before labels after =
    (plan : List ℕ) (k w : ℕ) (log : List ℕ) → Watched plan k w log c before → Watched plan k w (log ++ labels) c after

-- ---- the call

-- for all bytes and numbers the definition's answer; where the plan is sound and the cap in range, it is so of the log, and no other is
pub record Checks (plan labels : List ℕ) (k w : ℕ) (r : Answer) : Type 0 where
  pub answer : answer_of r ≡ cap plan labels k w
  pub exact : (P : Plan) → read_plan plan ≡ sound P → cap_in_range k w ≡ true → Exact P.tasks k w labels (answer_of r)
