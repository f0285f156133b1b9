-- What a trace answers and writes.
use Rattle.std.specs.Prelude.{ℕ, cond, List, [], ◌∷◌, ◌++◌, ltb, length}
use Rattle.std.proofs.Math.Option.{Option, none, some}
use Rattle.model.specs.Limits.{max_labels, trace_room}
use Rattle.model.specs.Refusals.{too_many_labels, not_admitted}
use Rattle.model.specs.Lists.{flat_map}
use Rattle.model.specs.Bytes.{bytes}
use Rattle.model.specs.Plan.{Plan, read_plan}
use Rattle.model.specs.Slot.{Job, JobId, slot, displaced_in}
use Rattle.model.specs.Schedule.{admits}
use Rattle.model.specs.Calls.{Writing, refuses, writes, with_room, with_plan}

-- what a trace shows of a slot: "the task that ran (0: none), the slot's gain", and "the displaced job's task, 0 for none"
pub record Row : Type 0 where
  pub ran : ℕ
  pub gain : ℕ
  pub cut : ℕ

abbrev pub task_or0 : Option JobId → ℕ
task_or0 none = 0
task_or0 (some i) = i.task

-- of the slot with a label, from the job that ran in the slot before and the policy's jobs
abbrev pub row_of : Plan → Option JobId → List Job → ℕ → Row
row_of P ran js l = record { ran = task_or0 (slot P js l).ran; gain = (slot P js l).gain; cut = task_or0 (displaced_in P ran js l) }

-- of the slots of the labels, one after another: "each label finds .. the jobs that the label before it left". "The graph's nodes don't
-- carry" which job ran; "only a trace does."
abbrev pub slots : Plan → Option JobId → List Job → List ℕ → List Row
slots P ran js [] = []
slots P ran js (l ∷ ls) = row_of P ran js l ∷ slots P (slot P js l).ran (slot P js l).jobs ls

-- "12, more than 4,096 labels. 13, a label not admitted in the state reached."; "12 comes before 13". The row of
-- each label's slot is written, in order.
unfoldable pub trace_run : Plan → List ℕ → Writing (List Row)
trace_run P ls =
    let due = cond (admits P ls) (writes (slots P none [] ls)) (refuses not_admitted) in
    cond (ltb max_labels (length ls)) (refuses too_many_labels) due

-- for plan bytes and labels, with so many bytes of output lent; "Tracing builds no graph and never gives 5"
unfoldable pub trace : List ℕ → List ℕ → ℕ → Writing (List Row)
trace plan labels lent = with_room trace_room lent (with_plan (read_plan plan) (λ P. trace_run P labels))

-- "each label's task in one byte, its gain in two, most significant first", and `cut` "as a fourth byte for each label"
abbrev pub row_bytes : Row → List ℕ
row_bytes r = r.ran ∷ (bytes 2 r.gain ++ (r.cut ∷ []))

abbrev pub row_size : ℕ
row_size = 4

unfoldable pub trace_bytes : List Row → List ℕ
trace_bytes rs = flat_map row_bytes rs
