-- A minimum gap between the releases of a group of tasks: the automaton, what the calls answer, and what the plan written admits.
use Rattle.std.specs.Prelude.{◌≡◌, ℕ, zero, suc, ◌+◌, ◌-◌, ◌^◌, ◌≤◌, ◌<◌, Bool, false, cond, ◌&&◌, List, ◌↔◌, ◌⊎◌, T, leb, ltb, eqb, length, get_or}
use Rattle.std.proofs.Math.Option.{Option, none, some}
use Rattle.model.specs.Limits.{max_gap}
use Rattle.model.specs.Edition.{plan_room}
use Rattle.model.specs.Refusals.{bad_gap}
use Rattle.model.specs.Lists.{bit, one, sum}
use Rattle.model.specs.Plan.{Plan, between, read_plan}
use Rattle.model.specs.Schedule.{admits}
use Rattle.model.specs.Calls.{Writing, refuses, writes, with_room, with_plan}
use Rattle.model.specs.PlanBytes.{arcs_of, WrittenFrom}

-- ---- the group

-- the tasks that share a gap, as a call is given them: "a task number", or "a set of tasks, written as a label is"
pub data Group : Type 0 where
  one_task : ℕ → Group
  task_set : ℕ → Group

-- whether the task i is of the group: bit i−1 of a set says so
abbrev pub in_group : Group → ℕ → Bool
in_group (one_task j) i = eqb j i
in_group (task_set set) zero = false
in_group (task_set set) (suc k) = bit set k

-- whether a plan with so many tasks has the group: not so where "the task is not in the plan"; "An empty set is 14, and so is one with a task
-- the plan lacks."
abbrev pub known : Group → ℕ → Bool
known (one_task i) count = between 1 i count
known (task_set set) count = leb 1 set && ltb set (2 ^ count)

-- ---- the automaton, for the tasks that pass a test

-- how many of them a label releases, where the plan has so many tasks
unfoldable pub releases : (ℕ → Bool) → ℕ → ℕ → ℕ
releases of count l = sum (λ k. one (of (suc k) && bit l k)) count

-- Where a label with so many releases leads from the state s: "A state's number is the count of slots for which the task stays
-- closed, so the start is open."; "two of them never share a slot"
abbrev pub gap_next : ℕ → ℕ → ℕ → Option ℕ
gap_next g s zero = some (s - 1)
gap_next g zero (suc zero) = some (g - 1)
gap_next g (suc s) (suc zero) = none
gap_next g s (suc (suc n)) = none

-- "that plan's tasks and policy with an automaton of g states in place of its own"
unfoldable pub gap_plan : Plan → (ℕ → Bool) → ℕ → Plan
gap_plan P of g =
    let count = length P.tasks in
    record { tasks = P.tasks; policy = P.policy; states = g; arcs = arcs_of g count (λ s l. gap_next g s (releases of count l)) }

-- ---- the calls

-- "14: g is 0 or above 16, or the task is not in the plan", and so of a set
abbrev pub gap_in : Plan → Group → ℕ → Writing Plan
gap_in P group g =
    let due = writes (gap_plan P (in_group group) g) in
    cond (between 1 g max_gap && known group (length P.tasks)) due (refuses bad_gap)

-- "From a plan, a task number and a gap g", or "for a set of tasks", with so many bytes of output lent; 14 is "tried after the plan's own
-- faults"
unfoldable pub group_gap : List ℕ → Group → ℕ → ℕ → Writing Plan
group_gap plan group g lent = with_room plan_room lent (with_plan (read_plan plan) (λ P. gap_in P group g))

-- ---- what is promised of the plan written

-- the slot t of the run releases the task i, which is of the group
pub record Release (of : ℕ → Bool) (run : List ℕ) (t i : ℕ) : Type 0 where
  pub slot : t < length run
  pub numbered : 1 ≤ i
  pub released : T (bit (get_or run t 0) (i - 1))
  pub of_group : T (of i)

-- "any two releases of that task", and "any two releases from the set", "are at least g slots apart": of two that differ in slot or task;
-- "other tasks are free", but no label has a task that the plan lacks
pub record GapKept (of : ℕ → Bool) (count g : ℕ) (run : List ℕ) : Type 0 where
  pub labels : (t : ℕ) → t < length run → get_or run t 0 < 2 ^ count
  pub apart : (t i t' i' : ℕ) → Release of run t i → Release of run t' i' → t ≤ t' →
      ((t ≡ t') × (i ≡ i')) ⊎ (t + g ≤ t')

-- these bytes are a plan written from P that "admits exactly the runs" that keep the gap
pub record HasGap (P : Plan) (group : Group) (g : ℕ) (bs : List ℕ) : Type 0 where
  pub plan : Plan
  pub form : WrittenFrom P bs plan
  pub runs : (run : List ℕ) → T (admits plan run) ↔ GapKept (in_group group) (length P.tasks) g run

-- ---- what is promised of groups

-- there is such a task, and a plan with so many tasks has each of them
pub record OfPlan (of : ℕ → Bool) (count : ℕ) : Type 0 where
  pub member : (i : ℕ) × T (of i)
  pub each : (i : ℕ) → T (of i) → (1 ≤ i) × (i ≤ count)

-- two groups of the same tasks: so is "A set of one" with that task
abbrev pub SameTasks : Group → Group → Type 0
SameTasks a b = (i : ℕ) → in_group a i ≡ in_group b i
