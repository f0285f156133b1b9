-- Plans that are written: the bytes of a plan, and the arcs of an automaton.
use Rattle.std.specs.Prelude.{◌≡◌, ℕ, suc, ◌^◌, ◌≤◌, ◌<◌, cond, List, [], ◌∷◌, ◌++◌, length, get_or}
use Rattle.std.proofs.Math.Option.{Option, none, some}
use Rattle.model.specs.Edition.{Edition, long_reads, plan_room_in}
use Rattle.model.specs.Lists.{flat_map, up_from}
use Rattle.model.specs.Bytes.{bytes}
use Rattle.model.specs.Plan.{Task, Arc, Plan, sound, read_plan, read_plan_in, IsSoundIn}

-- ---- the bytes

-- "`01` C D V", V of the edition's bytes
abbrev pub task_bytes : Edition → Task → List ℕ
task_bytes e t = 0x01 ∷ t.work ∷ t.window ∷ bytes e.value_width t.value

-- "command `09` with a task number locks that task", "numbers rising": of the tasks from number i on
abbrev pub lock_bytes : List Task → ℕ → List ℕ
lock_bytes [] i = []
lock_bytes (t ∷ ts) i = cond t.locked (0x09 ∷ i ∷ []) [] ++ lock_bytes ts (suc i)

-- "`04` S L T"
abbrev pub arc_bytes : Arc → List ℕ
arc_bytes a = 0x04 ∷ a.from ∷ a.label ∷ a.to ∷ []

-- "`01` C D V .., one to four times ..; `02` policy ..; `03` M states ..; `04` S L T, any number ..; `05` end", and `09` "after the last
-- task and before `02`": "A plan written from another keeps its locks"
unfoldable pub plan_bytes_in : Edition → Plan → List ℕ
plan_bytes_in e P =
    flat_map (task_bytes e) P.tasks
    ++ (lock_bytes P.tasks 1 ++ 0x02 ∷ P.policy ∷ 0x03 ∷ P.states ∷ (flat_map arc_bytes P.arcs ++ (0x05 ∷ [])))

abbrev pub plan_bytes : Plan → List ℕ
plan_bytes P = plan_bytes_in long_reads P

-- The form of a plan: its bytes are read as it, they are no longer than "the longest plan of the edition", and no other bytes are it.
pub record WrittenForm (e : Edition) (P : Plan) : Type 0 where
  pub taken : read_plan_in e (plan_bytes_in e P) ≡ sound P
  pub fits : length (plan_bytes_in e P) ≤ plan_room_in e
  pub only : (bs : List ℕ) → ((i : ℕ) → get_or bs i 0 < 256) → read_plan_in e bs ≡ sound P → bs ≡ plan_bytes_in e P

-- every sound plan of the edition has that form
abbrev pub PlansAreWritten : Edition → Type 0
PlansAreWritten e = (P : Plan) → IsSoundIn e P → WrittenForm e P

-- ---- an automaton

-- the arc of a pair, by where it leads: "A pair not given is not admitted."
abbrev pub given_arc : ℕ → ℕ → Option ℕ → List Arc
given_arc s l none = []
given_arc s l (some t) = record { from = s; label = l; to = t } ∷ []

-- the arcs of so many states over so many tasks, by the next state of a state and a label; "pairs (S, L) strictly rising"
unfoldable pub arcs_of : ℕ → ℕ → (ℕ → ℕ → Option ℕ) → List Arc
arcs_of states count next =
    flat_map (λ s. flat_map (λ l. given_arc s l (next s l)) (up_from 0 (2 ^ count))) (up_from 0 states)

-- ---- a plan that is written from another

-- these bytes are the plan Q: "that plan's tasks and policy", in "plan bytes that the reader takes"
pub record WrittenFrom (P : Plan) (bs : List ℕ) (Q : Plan) : Type 0 where
  pub taken : read_plan bs ≡ sound Q
  pub tasks : Q.tasks ≡ P.tasks
  pub policy : Q.policy ≡ P.policy
