-- A cap on the work that any k slots in a row release: what is answered for a log of labels, and what the answer says of it.
use Rattle.std.specs.Prelude.{◌≡◌, ℕ, suc, ◌-◌, ◌^◌, ◌≤◌, ◌<◌, Bool, true, cond, ◌&&◌, List, [], ◌∷◌, map, leb, ltb, length, get_or, take, drop}
use Rattle.model.specs.Limits.{max_cap_slots, max_cap_work}
use Rattle.model.specs.Refusals.{not_admitted, bad_cap}
use Rattle.model.specs.Lists.{sum_of, up_from}
use Rattle.model.specs.Plan.{Task, Plan, PlanAnswer, faulty, sound, between, read_plan}
use Rattle.model.specs.Slot.{new_jobs}

-- ---- the work of labels; "The automaton plays no part": of a plan only its tasks are asked for

-- "units of work, the sum of C over releases": a label's are the jobs that join by it, each "with C slots of work remaining"
abbrev pub label_work : List Task → ℕ → ℕ
label_work ts l = sum_of (λ j. j.work) (new_jobs ts l 1)

-- and of labels
abbrev pub work_of : List Task → List ℕ → ℕ
work_of ts ls = sum_of (label_work ts) ls

-- "the last k slots, or all so far if fewer", the slot t the last of them
abbrev pub last_slots : ℕ → List ℕ → ℕ → List ℕ
last_slots k log t = drop (suc t - k) (take (suc t) log)

-- they "exceed w"
unfoldable pub exceeds : List Task → ℕ → ℕ → List ℕ → ℕ → Bool
exceeds ts k w log t = ltb w (work_of ts (last_slots k log t))

-- "A label with a foreign bit": not all are "bits of the plan's tasks"
abbrev pub foreign : List Task → ℕ → Bool
foreign ts l = leb (2 ^ length ts) l

-- ---- the answer

pub data CapAnswer : Type 0 where
  refused : ℕ → CapAnswer
  over : ℕ → CapAnswer  -- "the first slot in which the last k slots .. exceed w"
  kept : CapAnswer

-- what the slot t tells: "A label with a foreign bit is 13", else whether the cap is exceeded; `kept` is nothing
abbrev pub slot_tells : List Task → ℕ → ℕ → List ℕ → ℕ → CapAnswer
slot_tells ts k w log t =
    let here = cond (exceeds ts k w log t) (over t) kept in
    cond (foreign ts (get_or log t 0)) (refused not_admitted) here

abbrev pub earlier : CapAnswer → CapAnswer → CapAnswer
earlier (refused n) later = refused n
earlier (over t) later = over t
earlier kept later = later

-- the first that tells something
abbrev pub earliest : List CapAnswer → CapAnswer
earliest [] = kept
earliest (a ∷ as') = earlier a (earliest as')

-- by the slots in their order: 13 comes "unless an earlier slot already exceeds the cap"; "otherwise `kept`"
unfoldable pub cap_run : List Task → ℕ → ℕ → List ℕ → CapAnswer
cap_run ts k w log = earliest (map (slot_tells ts k w log) (up_from 0 (length log)))

-- "18 .. : k outside 1 to 64, or w above 2,560"
abbrev pub cap_in_range : ℕ → ℕ → Bool
cap_in_range k w = between 1 k max_cap_slots && leb w max_cap_work

-- for a plan that is read: 18 comes "after the plan's own faults"
abbrev pub cap_plan : PlanAnswer → ℕ → ℕ → List ℕ → CapAnswer
cap_plan (faulty n) k w log = refused n
cap_plan (sound P) k w log =
    let answer = cap_run P.tasks k w log in
    cond (cap_in_range k w) answer (refused bad_cap)

-- for plan bytes and "the lent label log of a whole run, of any length, so 12 is never given"; "no graph is built", so 5 neither
unfoldable pub cap : List ℕ → List ℕ → ℕ → ℕ → CapAnswer
cap plan log k w = cap_plan (read_plan plan) k w log

-- ---- what the answer says

-- "Firmware's cap allows w units of work .. in any k slots in a row."; "Only bits of the plan's tasks may be set in a label."
pub record Keeps (ts : List Task) (k w : ℕ) (log : List ℕ) : Type 0 where
  pub labels : (t : ℕ) → t < length log → get_or log t 0 < 2 ^ length ts
  pub rows : (t : ℕ) → work_of ts (take k (drop t log)) ≤ w

-- the slot t is the first that exceeds the cap, and no label up to it is foreign
pub record FirstOver (ts : List Task) (k w : ℕ) (log : List ℕ) (t : ℕ) : Type 0 where
  pub slot : t < length log
  pub before : Keeps ts k w (take t log)
  pub label : get_or log t 0 < 2 ^ length ts
  pub more : w < work_of ts (last_slots k log t)

-- the slot t has the first foreign label, and no slot before it exceeds the cap
pub record FirstForeign (ts : List Task) (k w : ℕ) (log : List ℕ) (t : ℕ) : Type 0 where
  pub slot : t < length log
  pub before : Keeps ts k w (take t log)
  pub label : 2 ^ length ts ≤ get_or log t 0

-- what an answer says of a log, where the plan is sound and the cap in range
abbrev pub Says : List Task → ℕ → ℕ → List ℕ → CapAnswer → Type 0
Says ts k w log (refused n) = (n ≡ not_admitted) × (t : ℕ) × FirstForeign ts k w log t
Says ts k w log (over t) = FirstOver ts k w log t
Says ts k w log kept = Keeps ts k w log

-- it is so, and of no other answer
pub record Exact (ts : List Task) (k w : ℕ) (log : List ℕ) (a : CapAnswer) : Type 0 where
  pub says : Says ts k w log a
  pub only : (b : CapAnswer) → Says ts k w log b → a ≡ b

-- the theorem that is due
abbrev pub CapClaim : Type 0
CapClaim = (plan log : List ℕ) (k w : ℕ) (P : Plan) → read_plan plan ≡ sound P → cap_in_range k w ≡ true → Exact P.tasks k w log (cap plan log k w)
