-- A plan: its tasks, its policy, and the automaton of admitted labels; and the reading of plan bytes.
use Rattle.std.specs.Prelude.{◌≡◌, ℕ, zero, suc, ◌-◌, ◌^◌, Bool, true, false, cond, not, ◌&&◌, ◌||◌, List, [], ◌∷◌, ◌++◌, map, leb, ltb, eqb, length, get_or, drop}
use Rattle.std.proofs.Math.Option.{Option, none, some}
use Rattle.model.specs.Limits.{max_tasks, max_states}
use Rattle.model.specs.Edition.{Edition, long_reads, task_width}
use Rattle.model.specs.Lists.{any, up_from}
use Rattle.model.specs.Bytes.{number}
use Rattle.model.specs.Refusals.{bytes_end, unknown_command, out_of_place, out_of_range}

pub record Task : Type 0 where
  pub work : ℕ  -- C, slots of work
  pub window : ℕ  -- D
  pub value : ℕ  -- V, the gain
  pub locked : Bool  -- whether a job of it, "once begun, runs to its end"

-- "in state S label L is admitted and leads to T"
pub record Arc : Type 0 where
  pub from : ℕ
  pub label : ℕ
  pub to : ℕ

pub record Plan : Type 0 where
  pub tasks : List Task
  pub policy : ℕ
  pub states : ℕ
  pub arcs : List Arc

abbrev pub is_arc : ℕ → ℕ → Arc → Bool
is_arc s l a = eqb a.from s && eqb a.label l

-- the state that a label leads to; "a pair not given is not admitted"
abbrev pub next_in : List Arc → ℕ → ℕ → Option ℕ
next_in [] s l = none
next_in (a ∷ as') s l = let later = next_in as' s l in cond (is_arc s l a) (some a.to) later

-- ---- the bytes

pub data PlanAnswer : Type 0 where
  faulty : ℕ → PlanAnswer  -- refused, with the number
  sound : Plan → PlanAnswer

-- what the commands read so far say; 0 stands for a policy or a count of states not given yet
pub record Reading : Type 0 where
  pub tasks : List Task
  pub policy : ℕ
  pub states : ℕ
  pub arcs : List Arc
  pub ended : Bool

abbrev pub nothing_read : Reading
nothing_read = record { tasks = []; policy = 0; states = 0; arcs = []; ended = false }

abbrev pub between : ℕ → ℕ → ℕ → Bool
between low n high = leb low n && leb n high

abbrev pub is_zero : ℕ → Bool
is_zero n = eqb n 0

-- "Commands are one byte": task 01, policy 02, states 03, arc 04, end 05, and lock 09 in an edition that has it
abbrev pub unknown : Edition → ℕ → Bool
unknown e c = not (between 1 c 5 || (e.locks && eqb c 9))

-- "operands have fixed widths": the bytes of a command with its operands
unfoldable pub width : Edition → ℕ → ℕ
width e c = cond (eqb c 1) (task_width e) (cond (eqb c 4) 4 (cond (eqb c 5) 1 2))

-- the last operand, V or T, "most significant byte first": the bytes of the command past its first two operands; those that are not
-- there count as 0
unfoldable pub last_operand : Edition → ℕ → List ℕ → ℕ
last_operand e c bs = number (map (λ i. get_or bs i 0) (up_from 2 (width e c - 3)))

-- some of the tasks is locked
abbrev pub any_locked : List Task → Bool
any_locked ts = any (λ t. t.locked) ts

-- whether a command may follow those read: tasks first, "one to four times", then locks, "after the last task and before `02`", then policy,
-- states, arcs and end
unfoldable pub may_follow : Reading → ℕ → Bool
may_follow r c =
    cond (eqb c 1) (is_zero r.policy && ltb (length r.tasks) max_tasks && not (any_locked r.tasks))
    (cond (eqb c 2 || eqb c 9) (is_zero r.policy && not (is_zero (length r.tasks)))
    (cond (eqb c 3) (not (is_zero r.policy) && is_zero r.states)
    (not (is_zero r.states))))

-- "1 ≤ C ≤ D ≤" the longest window, "V 1 to" the largest value; for long reads 10 and 65,535
unfoldable pub task_in_range : Edition → ℕ → ℕ → ℕ → Bool
task_in_range e c d v = leb 1 c && leb c d && leb d e.window && between 1 v e.value

-- "S, T below M, L below 2 to the number of tasks"
unfoldable pub arc_in_range : Reading → ℕ → ℕ → ℕ → Bool
arc_in_range r s l t = ltb s r.states && ltb l (2 ^ length r.tasks) && ltb t r.states

-- the operands x, y, z of the command c; "policy (1 to 4)", "M states (1 to 16)"; of `09`, "a task that isn't there is 4"
unfoldable pub in_range : Edition → Reading → ℕ → ℕ → ℕ → ℕ → Bool
in_range e r c x y z =
    cond (eqb c 1) (task_in_range e x y z)
    (cond (eqb c 2) (between 1 x 4)
    (cond (eqb c 3) (between 1 x max_states)
    (cond (eqb c 4) (arc_in_range r x y z)
    (cond (eqb c 9) (between 1 x (length r.tasks))
    true))))

-- the order of pairs (S, L)
abbrev pub pair_below : Arc → ℕ → ℕ → Bool
pair_below a s l = ltb a.from s || (eqb a.from s && ltb a.label l)

-- "pairs (S, L) strictly rising": the pair is above the last arc's
abbrev pub rising : List Arc → ℕ → ℕ → Bool
rising [] s l = true
rising (a ∷ []) s l = pair_below a s l
rising (a ∷ b ∷ as') s l = rising (b ∷ as') s l

-- "numbers rising": no task from the number i on is locked yet
abbrev pub lock_rises : List Task → ℕ → Bool
lock_rises ts i = not (any_locked (drop (i - 1) ts))

-- an arc's pair, or a lock's number, is above those before it; no other command has one
abbrev pub rises : Reading → ℕ → ℕ → ℕ → Bool
rises r c x y = cond (eqb c 4) (rising r.arcs x y) (cond (eqb c 9) (lock_rises r.tasks x) true)

-- The first fault by the tests' results, 0 for none: "3 (a byte after `05`), 2, 3 (may not follow, a fifth task), 1, 4, 3 (pairs)
-- are tried in turn"; of `09`, "numbers not rising are 3 too but tried after 4".
unfoldable pub first_fault : (ended unknown follows short ranged rises : Bool) → ℕ
first_fault ended unknown follows short ranged rises =
    cond ended out_of_place
    (cond unknown unknown_command
    (cond (not follows) out_of_place
    (cond short bytes_end
    (cond (not ranged) out_of_range
    (cond (not rises) out_of_place
    0)))))

-- the fault of the command c with operands x, y, z, where so many bytes are left from it on
unfoldable pub fault : Edition → Reading → ℕ → ℕ → ℕ → ℕ → ℕ → ℕ
fault e r left c x y z =
    first_fault r.ended (unknown e c) (may_follow r c) (ltb left (width e c)) (in_range e r c x y z) (rises r c x y)

-- the same task, locked or not
abbrev pub with_lock : Bool → Task → Task
with_lock b t = record { work = t.work; window = t.window; value = t.value; locked = b }

-- "`09` with a task number locks that task": the task at i, from 0
abbrev pub lock_at : List Task → ℕ → List Task
lock_at [] i = []
lock_at (t ∷ ts) zero = with_lock true t ∷ ts
lock_at (t ∷ ts) (suc i) = t ∷ lock_at ts i

-- the tasks once the command c with operands x, y, z is read: one more, or one of them locked
abbrev pub tasks_after : List Task → ℕ → ℕ → ℕ → ℕ → List Task
tasks_after ts c x y z =
    cond (eqb c 1) (ts ++ (record { work = x; window = y; value = z; locked = false } ∷ []))
    (cond (eqb c 9) (lock_at ts (x - 1))
    ts)

-- what is read once the command c with operands x, y, z is
unfoldable pub after : Reading → ℕ → ℕ → ℕ → ℕ → Reading
after r c x y z = record {
  tasks = tasks_after r.tasks c x y z;
  policy = cond (eqb c 2) x r.policy;
  states = cond (eqb c 3) x r.states;
  arcs = cond (eqb c 4) (r.arcs ++ (record { from = x; label = y; to = z } ∷ [])) r.arcs;
  ended = eqb c 5;
}

abbrev pub refused_or : ℕ → PlanAnswer → PlanAnswer
refused_or zero answer = answer
refused_or (suc n) answer = faulty (suc n)

-- "1, bytes end .. where one is due"
abbrev pub at_end : Reading → PlanAnswer
at_end r = cond r.ended (sound (record { tasks = r.tasks; policy = r.policy; states = r.states; arcs = r.arcs })) (faulty bytes_end)

-- One command a turn, up to "the plan's first bad command". Each takes a byte at least, so one turn more than there are bytes is enough.
abbrev pub read_commands : Edition → ℕ → List ℕ → Reading → PlanAnswer
read_commands e zero bs r = faulty bytes_end
read_commands e (suc n) [] r = at_end r
read_commands e (suc n) (c ∷ bs) r =
    let x = get_or bs 0 0 in
    let y = get_or bs 1 0 in
    let z = last_operand e c bs in
    let rest = read_commands e n (drop (width e c) (c ∷ bs)) (after r c x y z) in
    refused_or (fault e r (length (c ∷ bs)) c x y z) rest

-- what is read from here on
unfoldable pub read_from : Edition → List ℕ → Reading → PlanAnswer
read_from e bs r = read_commands e (suc (length bs)) bs r

-- the plan of an edition's bytes
unfoldable pub read_plan_in : Edition → List ℕ → PlanAnswer
read_plan_in e bs = read_from e bs nothing_read

-- "plans of the first edition are no longer read directly"
abbrev pub read_plan : List ℕ → PlanAnswer
read_plan bs = read_plan_in long_reads bs

-- "A plan is sound when it has none of the faults 1 to 4": some bytes of the edition are read as it.
pub record IsSoundIn (e : Edition) (P : Plan) : Type 0 where
  pub bytes : List ℕ
  pub read : read_plan_in e bytes ≡ sound P

abbrev pub IsSound : Plan → Type 0
IsSound P = IsSoundIn long_reads P
