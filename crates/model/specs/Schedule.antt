-- Runs, the policy's gain over a run, and schedules.
use Rattle.std.specs.Prelude.{◌≡◌, ℕ, ◌+◌, ◌-◌, ◌≤◌, ◌<◌, Bool, true, false, cond, List, [], ◌∷◌, T, length, get_or}
use Rattle.std.proofs.Math.Option.{Option, none, some}
use Rattle.model.specs.Lists.{bit, one, sum}
use Rattle.model.specs.Plan.{Task, Plan, next_in}
use Rattle.model.specs.Slot.{Job, slot, task_of}

-- "each label finds the state .. that the label before it left", from a state
abbrev pub admits_from : Plan → List ℕ → ℕ → Bool
admits_from P [] s = true
admits_from P (l ∷ ls) s = elim (next_in P.arcs s l) [ none ↦ false | some t ↦ admits_from P ls t ]

-- "A plan admits a run when every label is admitted in the state it finds"; "It begins in automaton state 0"
abbrev pub admits : Plan → List ℕ → Bool
admits P run = admits_from P run 0

-- "the state .. that the label before it left", after all of the labels, if each is admitted
abbrev pub state_after : Plan → List ℕ → ℕ → Option ℕ
state_after P [] s = some s
state_after P (l ∷ ls) s = elim (next_in P.arcs s l) [ none ↦ none | some t ↦ state_after P ls t ]

-- the policy's gain over the labels, from its jobs
abbrev pub gain_from : Plan → List Job → List ℕ → ℕ
gain_from P js [] = 0
gain_from P js (l ∷ ls) = (slot P js l).gain + gain_from P (slot P js l).jobs ls

-- "The policy's gain counts only slots of the run."
abbrev pub policy_gain : Plan → List ℕ → ℕ
policy_gain P run = gain_from P [] run

-- ---- schedules

-- "a run of neighbouring bits": the slots given to a picked job of a locked task lie among C slots in a row
abbrev pub Unbroken : List Task → (ℕ → ℕ → Bool) → (ℕ → ℕ → ℕ → Bool) → Type 0
Unbroken ts picks gives =
    (t i : ℕ) → T (picks t i) → T (task_of ts i).locked → (k : ℕ) × ((s : ℕ) → T (gives s t i) → (k ≤ s) × (s < k + (task_of ts i).work))

-- "A schedule of a finite run picks some released jobs and gives each exactly C slots inside its window, no slot twice; slots
-- after the run's last one are allowed." A job is named by its release slot t and its task i. "Schedules, graph and certificate are all read
-- with locks from here on".
pub record Schedule (P : Plan) (run : List ℕ) : Type 0 where
  pub picks : ℕ → ℕ → Bool
  pub gives : ℕ → ℕ → ℕ → Bool  -- the slot s, to the job (t, i)
  pub released : (t i : ℕ) → T (picks t i) → (t < length run) × (1 ≤ i) × (i ≤ length P.tasks) × T (bit (get_or run t 0) (i - 1))
  pub in_window : (s t i : ℕ) → T (gives s t i) → T (picks t i) × (t ≤ s) × (s < t + (task_of P.tasks i).window)
  pub whole : (t i : ℕ) → T (picks t i) → sum (λ k. one (gives (t + k) t i)) (task_of P.tasks i).window ≡ (task_of P.tasks i).work
  pub unbroken : Unbroken P.tasks picks gives
  pub once : (s t i t' i' : ℕ) → T (gives s t i) → T (gives s t' i') → (t ≡ t') × (i ≡ i')

-- "Its gain is the sum of the picked jobs' V."
abbrev pub schedule_gain : (P : Plan) (run : List ℕ) → Schedule P run → ℕ
schedule_gain P run σ =
    sum (λ t. sum (λ k. cond (σ.picks t (k + 1)) (task_of P.tasks (k + 1)).value 0) (length P.tasks)) (length run)
