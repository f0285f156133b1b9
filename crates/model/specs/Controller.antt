-- The controller's register block: its bytes, a write, a run of writes, and what it holds after them.
use Rattle.std.specs.Prelude.{◌≡◌, ℕ, ◌+◌, ◌%◌, ◌^◌, Bool, cond, not, ◌&&◌, ◌||◌, T, eqb, get_or}
use mathlib.Core.List.{List, [], ◌∷◌, ◌++◌, foldl}
use Rattle.std.proofs.Math.Option.{Option, none, some}
use Rattle.std.specs.Int.Bits.{bit_and}
use Rattle.model.specs.Refusals.{bad_write}
use Rattle.model.specs.Lists.{cons_if, any, list_of, one}
use Rattle.model.specs.Bytes.{bytes, number, part}
use Rattle.model.specs.Plan.{Plan, PlanAnswer, faulty, sound, next_in}
use Rattle.model.specs.Slot.{Job, chosen_in, slot, jobs_after}
use Rattle.model.specs.Schedule.{policy_gain, admits}
use Rattle.model.specs.Trace.{task_or0}

-- ---- the block

-- what the part holds, "set up from a plan without faults"
pub record Block : Type 0 where
  pub label : ℕ  -- byte 0
  pub status : ℕ  -- byte 2
  pub mask : ℕ  -- byte 3
  pub ran : ℕ  -- byte 4
  pub gain : ℕ  -- bytes 8 to 11
  pub jobs : List Job  -- the policy's, which no byte shows
  pub state : ℕ  -- the automaton's, which no byte shows

-- "a fresh block is all zero"; a run "begins in automaton state 0 with no jobs"
abbrev pub fresh : Block
fresh = record { label = 0; status = 0; mask = 0; ran = 0; gain = 0; jobs = []; state = 0 }

-- "byte 5 is 1 exactly when status and mask share a set bit"
abbrev pub interrupt_of : ℕ → ℕ → ℕ
interrupt_of status mask = one (not (eqb (bit_and status mask) 0))

-- "The register block is sixteen bytes."; "Bytes 8 to 11 hold the gain so far .., most significant byte first"; "All others .. and byte 1,
-- read 0"
unfoldable pub registers : Block → List ℕ
registers b =
    (b.label ∷ 0 ∷ b.status ∷ b.mask ∷ b.ran ∷ interrupt_of b.status b.mask ∷ 0 ∷ 0 ∷ []) ++ (bytes 4 b.gain ++ (0 ∷ 0 ∷ 0 ∷ 0 ∷ []))

-- what a byte reads; "any past byte 15 too" reads 0
abbrev pub read_byte : Block → ℕ → ℕ
read_byte b n = get_or (registers b) n 0

-- ---- a write

pub record Write : Type 0 where
  pub byte : ℕ
  pub value : ℕ

-- "Byte 0 takes a label"
abbrev pub gives_label : Write → Bool
gives_label w = eqb w.byte 0

-- "writing 1 to byte 1 runs one slot"
abbrev pub runs : Write → Bool
runs w = eqb w.byte 1 && eqb w.value 1

-- "Byte 3 is the interrupt mask"
abbrev pub gives_mask : Write → Bool
gives_mask w = eqb w.byte 3

-- "17: a write to another byte than 0, 1 or 3, or of another value than 1 to byte 1"; 0 for a write that is taken
unfoldable pub refusal_of : Write → ℕ
refusal_of w = cond (gives_label w || runs w || gives_mask w) 0 bad_write

-- the gain so far is held "modulo 2^32"
abbrev pub gain_limit : ℕ
gain_limit = 2 ^ 32

-- "bit 0, a job finished": the one that runs has one slot of work remaining
abbrev pub finished_bit : Plan → List Job → ℕ → ℕ
finished_bit P js l = one (any (λ j. eqb j.work 1) (list_of (chosen_in P js l)))

-- "bit 1, the label was not admitted and no slot passed"; "bit 0 is 0 when bit 1 is set"
abbrev pub not_admitted_bit : ℕ
not_admitted_bit = 2

-- "runs one slot with that label and clears byte 0, admitted or not", by the state that the label leads to; "A label not admitted makes byte 4
-- zero."
unfoldable pub ran_to : Plan → Block → Option ℕ → Block
ran_to P b none = record { label = 0; status = not_admitted_bit; mask = b.mask; ran = 0; gain = b.gain; jobs = b.jobs; state = b.state }
ran_to P b (some s) =
    let done = slot P b.jobs b.label in
    let finished = finished_bit P b.jobs b.label in
    let gain = (b.gain + done.gain) % gain_limit in
    record { label = 0; status = finished; mask = b.mask; ran = task_or0 done.ran; gain = gain; jobs = done.jobs; state = s }

abbrev pub with_label : Block → ℕ → Block
with_label b l = record { label = l; status = b.status; mask = b.mask; ran = b.ran; gain = b.gain; jobs = b.jobs; state = b.state }

abbrev pub with_mask : Block → ℕ → Block
with_mask b m = record { label = b.label; status = b.status; mask = m; ran = b.ran; gain = b.gain; jobs = b.jobs; state = b.state }

-- the block after a write; where that is refused "the block is unchanged"
unfoldable pub after_write : Plan → Block → Write → Block
after_write P b w =
    let slot_run = ran_to P b (next_in P.arcs b.state b.label) in
    cond (gives_label w) (with_label b w.value)
    (cond (runs w) slot_run
    (cond (gives_mask w) (with_mask b w.value) b))

-- and after one write after another
abbrev pub after_writes : Plan → Block → List Write → Block
after_writes P b [] = b
after_writes P b (w ∷ ws) = after_writes P (after_write P b w) ws

-- "From a fresh block, after any writes, however many"
abbrev pub block_after : Plan → List Write → Block
block_after P ws = after_writes P fresh ws

-- ---- the call without state

-- The writes that a list of bytes is, each a byte's number and a value. A number at the end that has no value is no write.
abbrev pub writes_in : List ℕ → List Write
writes_in [] = []
writes_in (n ∷ []) = []
writes_in (n ∷ v ∷ bs) = record { byte = n; value = v } ∷ writes_in bs

-- the refusal of the last write, 0 where it is taken and where there is none
abbrev pub last_refusal : List Write → ℕ
last_refusal ws = foldl (λ n w. refusal_of w) 0 ws

-- what the call tells: the plan's own fault, "set up from a plan without faults", or the refusal of the last write; "No graph is built", so
-- never 5
abbrev pub replay_number : PlanAnswer → List Write → ℕ
replay_number (faulty n) ws = n
replay_number (sound P) ws = last_refusal ws

-- what sixteen lent bytes then hold: the registers, or what they had where there is no block
abbrev pub replay_registers : PlanAnswer → List Write → List ℕ → List ℕ
replay_registers (faulty n) ws before = before
replay_registers (sound P) ws before = registers (block_after P ws)

-- ---- what the block holds after any writes, told by the labels and not by the block

-- "Byte 0 takes a label; writing 1 to byte 1 runs one slot with that label and clears byte 0": what byte 0 holds after a write
abbrev pub label_after : ℕ → Write → ℕ
label_after l w = cond (gives_label w) w.value (cond (runs w) 0 l)

-- the labels that slots are asked for with, in order, where byte 0 holds l at first
abbrev pub asked : ℕ → List Write → List ℕ
asked l [] = []
asked l (w ∷ ws) = cons_if (runs w) l (asked (label_after l w) ws)

-- a label is admitted after those before it, if with it they are a run of the plan
abbrev pub admitted_next : Plan → List ℕ → ℕ → List ℕ
admitted_next P run l = cond (admits P (run ++ (l ∷ []))) (run ++ (l ∷ [])) run

-- "the admitted labels" of these
unfoldable pub admitted_of : Plan → List ℕ → List ℕ
admitted_of P ls = foldl (admitted_next P) [] ls

-- "after any writes, however many, and no other change, the gain is, so reduced, what the slot rules give for the admitted labels so
-- far, and after an admitted label byte 4 is the task that those rules run", said of the sixteen bytes that are read
pub record TrueToRules (P : Plan) (ws : List Write) (bs : List ℕ) : Type 0 where
  pub run : T (admits P (admitted_of P (asked 0 ws)))
  pub gain : number (part bs 8 4) ≡ policy_gain P (admitted_of P (asked 0 ws)) % gain_limit
  pub ran : (ls : List ℕ) (l : ℕ) → asked 0 ws ≡ ls ++ (l ∷ []) → T (admits P (admitted_of P ls ++ (l ∷ []))) →
      get_or bs 4 0 ≡ task_or0 (slot P (jobs_after P [] (admitted_of P ls)) l).ran

-- the theorem that is due
abbrev pub BlockClaim : Type 0
BlockClaim = (P : Plan) (ws : List Write) → TrueToRules P ws (registers (block_after P ws))
