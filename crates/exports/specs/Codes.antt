-- An answer as one number, and the numbers beside it.
use Rattle.std.specs.Prelude.{◌≡◌, List, [], ◌∷◌, ◌↔◌, ℕ, ◌+◌, ◌≤◌, ◌<◌, length, take, None, Some, Ok, Err}
use Rattle.std.proofs.Math.Option.{some}
use Rattle.model.specs.Certificate.{Certificate, certificate_bytes, read_certificate_in}
use Rattle.model.specs.Check.{CheckAnswer}
use Rattle.model.specs.Calls.{Result, Writing, refused, written, result_of, output_after}
use Rattle.model.specs.Combine.{combine, AdmitsBoth, ManyReached}
use Rattle.model.specs.Convert.{forth, back, widened, Converted, Unsaid, CertificateCarried, CarriesOver}
use Rattle.model.specs.Edition.{Edition, first_edition, long_reads, plan_room_in}
use Rattle.model.specs.Gap.{Group, group_gap, HasGap, SameTasks}
use Rattle.model.specs.Interrupted.{TellsCuts, cut_in}
use Rattle.model.specs.Plan.{Plan, sound, read_plan, read_plan_in, IsSoundIn}
use Rattle.model.specs.PlanBytes.{plan_bytes_in, plan_bytes}
use Rattle.model.specs.Refusals.{too_many_pairs, not_in_first}
use Rattle.model.specs.Trace.{trace, trace_bytes}
use Rattle.solver.specs.Promise as solver
use Rattle.refusals.specs.Numbers.{refusal_number}
use Rattle.solver.specs.Promise.{Solves}
use Rattle.cap.specs.View as caps
use Rattle.cap.specs.View.{Checks}

-- the bytes written, or 65,536 and the number of the refusal
abbrev pub code_of : Result → ℕ
code_of (refused n) = 65536 + n
code_of (written n) = n

-- 0, or the number of the refusal
abbrev pub check_code : CheckAnswer → ℕ
check_code (CheckAnswer.refused n) = n
check_code (CheckAnswer.share p q n k) = 0

-- p, q, N and K, or the numbers as they were
abbrev pub numbers_after : CheckAnswer → List ℕ → List ℕ
numbers_after (CheckAnswer.refused n) before = before
numbers_after (CheckAnswer.share p q n k) before = p ∷ q ∷ n ∷ k ∷ []

-- the bytes written, or 65,536 and the number of the refusal
abbrev pub solve_code : solver.Answer → ℕ
solve_code (Err r) = 65536 + refusal_number r
solve_code (Ok s) = s.bytes

-- the number of passes, or what was there
abbrev pub passes_after : solver.Answer → List ℕ → List ℕ
passes_after (Err r) before = before
passes_after (Ok s) before = s.passes ∷ []

-- the numbers of an answer that keeps the solver's promise
pub record SolvesAs (plan work work' out out' passes passes' : List ℕ) (r : ℕ) : Type 0 where
  pub answer : solver.Answer
  pub code : r ≡ solve_code answer
  pub told : passes' ≡ passes_after answer passes
  pub solves : Solves plan work work' out out' answer

-- the call does what is due: the number that it answers, and what the output then holds
pub record TellsAs {A : Type 0} (spell : A → List ℕ) (due : Writing A) (out out' : List ℕ) (r : ℕ) : Type 0 where
  pub code : r ≡ code_of (result_of spell due)
  pub output : out' ≡ output_after spell due out

-- the trace call's promise by that number: what is due; and where bytes were written, the fourth of each label tells who was interrupted
pub record TracesAs (plan labels out out' : List ℕ) (r : ℕ) : Type 0 where
  pub tells : TellsAs trace_bytes (trace plan labels (length out)) out out' r
  pub cuts : (P : Plan) → read_plan plan ≡ sound P → r < 65536 → TellsCuts P labels (cut_in out')

-- the gap calls': what is due, for every name of the same tasks, and bytes that were written have the gap
pub record RewritesAs (plan : List ℕ) (group : Group) (slots : ℕ) (out out' : List ℕ) (r : ℕ) : Type 0 where
  pub tells : TellsAs plan_bytes (group_gap plan group slots (length out)) out out' r
  pub named : (other : Group) → SameTasks group other → TellsAs plan_bytes (group_gap plan other slots (length out)) out out' r
  pub kept : (P : Plan) → read_plan plan ≡ sound P → r < 65536 → HasGap P group slots (take r out')

-- the combine call's: what is due; bytes that were written admit what both plans admit; and where 15 is told, too many pairs are reached
pub record CombinesAs (first second out out' : List ℕ) (r : ℕ) : Type 0 where
  pub tells : TellsAs plan_bytes (combine first second (length out)) out out' r
  pub admitted : (P Q : Plan) → read_plan first ≡ sound P → read_plan second ≡ sound Q → r < 65536 → AdmitsBoth P Q (take r out')
  pub many : (P Q : Plan) → read_plan first ≡ sound P → read_plan second ≡ sound Q → r ≡ 65536 + too_many_pairs → ManyReached P Q

-- a call's from one edition to another: what is due; and bytes that were written are the very plan, which the other call takes back
pub record ConvertsAs (from to : Edition) (call taken_back : List ℕ → ℕ → Writing Plan) (plan out out' : List ℕ) (r : ℕ) : Type 0 where
  pub tells : TellsAs (plan_bytes_in to) (call plan (length out)) out out' r
  pub kept : (P : Plan) → read_plan_in from plan ≡ sound P → r < 65536 → Converted from to taken_back plan (take r out') P

-- the forth call's: nodes and certificates of the old plan carry over
pub record ForthAs (plan out out' : List ℕ) (r : ℕ) : Type 0 where
  pub converts : ConvertsAs first_edition long_reads forth back plan out out' r
  pub carries : (P : Plan) → read_plan_in first_edition plan ≡ sound P → r < 65536 → CarriesOver P (take r out')

-- the back call's: with enough output, 16 is told exactly for the sound plans that no bytes of the first edition say
pub record BackAs (plan out out' : List ℕ) (r : ℕ) : Type 0 where
  pub converts : ConvertsAs long_reads first_edition back forth plan out out' r
  pub unsaid : (r ≡ 65536 + not_in_first) ↔ ((plan_room_in first_edition ≤ length out) × Unsaid first_edition plan)

-- the widen call's: what is due; and bytes that were written are accepted for the converted plan as the old certificate was for the plan
pub record WidenedAs (certificate out out' : List ℕ) (r : ℕ) : Type 0 where
  pub tells : TellsAs certificate_bytes (widened certificate (length out)) out out' r
  pub carried : (P : Plan) → IsSoundIn first_edition P → (c : Certificate) → read_certificate_in first_edition certificate ≡ some c → r < 65536 →
      CertificateCarried P c (plan_bytes P) (take r out')

-- 0 where the log keeps the cap, 1 where a slot exceeds it, or 65,536 and the number of the refusal
abbrev pub cap_code : caps.Answer → ℕ
cap_code (Err r) = 65536 + refusal_number r
cap_code (Ok (Some t)) = 1
cap_code (Ok None) = 0

-- that slot, or what was there
abbrev pub slot_after : caps.Answer → List ℕ → List ℕ
slot_after (Err r) before = before
slot_after (Ok (Some t)) before = t ∷ []
slot_after (Ok None) before = before

-- the numbers of an answer that keeps the cap call's promise
pub record ChecksAs (plan labels : List ℕ) (slots work : ℕ) (slot slot' : List ℕ) (r : ℕ) : Type 0 where
  pub answer : caps.Answer
  pub code : r ≡ cap_code answer
  pub told : slot' ≡ slot_after answer slot
  pub checks : Checks plan labels slots work answer
