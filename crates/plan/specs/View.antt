-- What the reader's structs and enums stand for.
use Rattle.std.specs.Prelude.{◌≡◌, ◌⊎◌, Bool, true, false, cond, List, [], ◌∷◌, ◌++◌, map, ℕ, zero, suc, ◌+◌, ◌*◌, ◌/◌, ◌%◌, ◌^◌, ◌<◌, ◌≤◌, leb, ltb, eqb, length, get_or, take, drop, replicate}
use Rattle.std.proofs.Math.Option.{Option, none, some}
use Rattle.model.specs.Edition.{Edition}
use Rattle.model.specs.Limits.{max_tasks, max_states}
use Rattle.model.specs.Refusals.{bytes_end, unknown_command, out_of_place, out_of_range}
use Rattle.model.specs.Plan as model
use Rattle.node.specs.declared.Edition as node
use Rattle.std.specs.Prelude as rust
use Rattle.std.specs.Prelude.{Ok, Err, None, Some, ◌≢◌}
pub use Rattle.plan.specs.Tasks.{empty_task, task_view}
use Rattle.plan.specs.declared.tasks.Task.{Task}
use Rattle.plan.specs.declared.tasks.TaskList.{TaskList}
use Rattle.plan.specs.declared.tasks.Plan.{Plan}
use Rattle.plan.specs.declared.Command.{Command}
use Rattle.plan.specs.declared.Command.TheVariants as command
use Rattle.plan.specs.declared.Operation.{Operation}
use Rattle.plan.specs.declared.Reading.{Reading}
use Rattle.plan.specs.declared.Fault.{Fault}
use Rattle.plan.specs.declared.Fault.TheVariants.{BytesEnd, UnknownCommand, OutOfPlace, OutOfRange}

-- an edition that the reader knows: V is one byte or two
abbrev pub Legible : node.Edition → Type 0
Legible e = (e.value_width ≡ 1) ⊎ (e.value_width ≡ 2)

-- the number of each fault
abbrev pub fault_number : Fault → ℕ
fault_number BytesEnd = bytes_end
fault_number UnknownCommand = unknown_command
fault_number OutOfPlace = out_of_place
fault_number OutOfRange = out_of_range

-- the byte of each command
abbrev pub command_number : Command → ℕ
command_number command.Task = 1
command_number command.Policy = 2
command_number command.States = 3
command_number command.Arc = 4
command_number command.End = 5
command_number command.Lock = 9

abbrev pub tasks_of : List Task → ℕ → List model.Task
tasks_of ts n = map task_view (take n ts)

abbrev pub list_of : TaskList → List model.Task
list_of t = tasks_of t.list t.count

-- nothing stands past the tasks given
abbrev pub Bare : TaskList → Type 0
Bare t = (k : ℕ) → t.count ≤ k → get_or t.list k empty_task ≡ empty_task

-- the labels of a state, and all pairs of a state and a label
abbrev pub label_count : ℕ
label_count = 2 ^ max_tasks

abbrev pub pair_count : ℕ
pair_count = max_states * label_count

-- the arc of the pair k, if the table has a next state for it
abbrev pub arc_at : ℕ → ℕ → List model.Arc
arc_at k zero = []
arc_at k (suc t) = record { from = k / label_count; label = k % label_count; to = t } ∷ []

-- the arcs of the first n pairs
abbrev pub arcs_below : List ℕ → ℕ → List model.Arc
arcs_below next zero = []
arcs_below next (suc n) = arcs_below next n ++ arc_at n (get_or next n 0)

unfoldable pub arcs_in : List ℕ → List model.Arc
arcs_in next = arcs_below next pair_count

-- every next state of the table is a state
pub record StatesFit (next : List ℕ) : Type 0 where
  pub to : (s l t : ℕ) → model.next_in (arcs_in next) s l ≡ some t → t < max_states

-- a table of next states for so many tasks: it admits labels of these alone, and leads to states
pub record TableFits (next : List ℕ) (count : ℕ) : Type 0 where
  pub states : StatesFit next
  pub labels : (s l t : ℕ) → model.next_in (arcs_in next) s l ≡ some t → l < 2 ^ count

-- the next state that an entry of the table stands for
abbrev pub next_of : ℕ → Option ℕ
next_of zero = none
next_of (suc t) = some t

-- and back
abbrev pub entry_of : Option ℕ → ℕ
entry_of none = 0
entry_of (some t) = suc t

abbrev pub plan_of : Plan → model.Plan
plan_of p = record { tasks = list_of p.tasks; policy = p.policy; states = p.states; arcs = arcs_in p.next }

-- the policy, or the number of states, that has been read, 0 where it is not given yet
abbrev pub given_in : rust.Option ℕ → ℕ
given_in None = 0
given_in (Some n) = n

-- the reading, with the arcs that stand beside it in the table
abbrev pub reading_of : Reading → List model.Arc → model.Reading
reading_of r arcs = record { tasks = list_of r.tasks; policy = given_in r.policy; states = given_in r.states; arcs = arcs; ended = r.ended }

-- before the first command
pub record NothingRead (r : Reading) : Type 0 where
  pub tasks : list_of r.tasks ≡ []
  pub bare : Bare r.tasks
  pub lock : r.lock ≡ 0
  pub policy : r.policy ≡ None
  pub states : r.states ≡ None
  pub least : r.least ≡ 0
  pub ended : r.ended ≡ false

-- a table without an arc
abbrev pub empty_table : List ℕ
empty_table = replicate pair_count 0

-- whether an arc's pair is the least one that rises or above it, and a lock's number above the last one; no other command has one
abbrev pub rises_in : Reading → ℕ → ℕ → ℕ → Bool
rises_in r c x y = cond (eqb c 4) (leb r.least (x * label_count + y)) (cond (eqb c 9) (ltb r.lock x) true)

-- the fault of a command, by the least pair that rises instead of the arcs, and by the last lock instead of the tasks
abbrev pub fault_in : Edition → Reading → ℕ → ℕ → ℕ → ℕ → ℕ → ℕ
fault_in e r left c x y z =
    model.first_fault r.ended (model.unknown e c) (model.may_follow (reading_of r []) c) (ltb left (model.width e c))
    (model.in_range e (reading_of r []) c x y z) (rises_in r c x y)

-- that of a command and its operands, which are the next bytes
abbrev pub fault_here : Edition → Reading → ℕ → List ℕ → ℕ
fault_here e r c bs = fault_in e r (length bs + 1) c (get_or bs 0 0) (get_or bs 1 0) (model.last_operand e c bs)

-- the command c with its operands, which are the next bytes
pub record IsOperation (e : Edition) (c : ℕ) (bs : List ℕ) (g : Operation) : Type 0 where
  pub command : command_number g.command ≡ c
  pub x : g.x ≡ get_or bs 0 0
  pub y : g.y ≡ get_or bs 1 0
  pub z : g.z ≡ model.last_operand e c bs

-- what the reader answers
abbrev pub answer_of : rust.Result Plan Fault → model.PlanAnswer
answer_of (Ok p) = model.sound (plan_of p)
answer_of (Err f) = model.faulty (fault_number f)

-- nothing stands past the tasks; those from a place on are locked where the last lock is above it; the states are within their limit, no policy is 0, it is given before them, and
-- they before the end
pub record Within (r : Reading) : Type 0 where
  pub bare : Bare r.tasks
  pub locks : (from : ℕ) → model.any_locked (drop from (list_of r.tasks)) ≡ ltb from r.lock
  pub states : (m : ℕ) → r.states ≡ Some m → (1 ≤ m) × (m ≤ max_states)
  pub some : (p : ℕ) → r.policy ≡ Some p → 1 ≤ p
  pub policy : (m : ℕ) → r.states ≡ Some m → r.policy ≢ None
  pub end : r.ended ≡ true → r.states ≢ None

-- the table has no arc from the least pair on, and one just below it
pub record Holds (next : List ℕ) (least : ℕ) : Type 0 where
  pub size : length next ≡ pair_count
  pub within : least ≤ pair_count
  pub above : (k : ℕ) → least ≤ k → get_or next k 0 ≡ 0
  pub below : (m : ℕ) → least ≡ suc m → get_or next m 0 ≡ 0 → ⊥

-- a command that may be read: it has no fault in some edition, with some bytes left
pub record Readable (r : Reading) (next : List ℕ) (c x y z : ℕ) : Type 0 where
  pub within : Within r
  pub holds : Holds next r.least
  pub edition : Edition
  pub left : ℕ
  pub passes : model.fault edition (reading_of r (arcs_in next)) left c x y z ≡ 0

-- the reading n and the table after a command are those before it with the command read
pub record Reads (r n : Reading) (before after : List ℕ) (c x y z : ℕ) : Type 0 where
  pub within : Within n
  pub holds : Holds after n.least
  pub reading : reading_of n (arcs_in after) ≡ model.after (reading_of r (arcs_in before)) c x y z
