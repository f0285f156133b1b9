-- The marked cases of document 01, as the requests leave them, in the long-read edition's widths: one table, and one theorem that the definitions give every line of it. Beside
-- it, since passes and a gap that is kept are relations and no functions, those of the requests about them.
use Rattle.std.specs.Prelude.{◌≡◌, refl, ℕ, suc, ◌+◌, ◌≤◌, ◌<◌, Bool, false, List, [], ◌∷◌, ◌++◌, map, ◌⊎◌, ℤ, pos, negsuc, length, replicate}
use Rattle.std.proofs.Common.{arith, ⊎_elim}
use Rattle.std.proofs.Math.Option.{Option, none, some}
use Rattle.model.specs.Limits.{work_room, certificate_room, trace_room}
use Rattle.model.specs.Edition.{first_edition, long_reads, plan_room_in, plan_room}
use Rattle.model.specs.Lists.{flat_map, up_from}
use Rattle.model.specs.Discovery.{found}
use Rattle.model.specs.Bytes.{number, bytes, signed, complement}
use Rattle.model.specs.Plan.{Plan, sound, read_plan, read_plan_in, read_from, first_fault, fault, after, width, last_operand, may_follow, in_range, task_in_range, arc_in_range}
use Rattle.model.specs.Slot.{slot, ready, first, policy_key, key}
use Rattle.model.specs.Masks.{free_masks, neighbouring, masks_of}
use Rattle.model.specs.Graph.{choices, edge_of, edges_at, edges, nodes, too_large}
use Rattle.model.specs.Certificate.{Certificate, certificate_bytes_in, certificate_bytes, read_certificate, read_certificate_in, read_potentials, read_steps}
use Rattle.model.specs.Check.{CheckAnswer, check, verdict, fraction_ok, gcd, potentials_ok, cycle_ok, follow, allowance}
use Rattle.model.specs.Thousandths.{thousandths}
use Rattle.model.specs.Passes.{beginning, relax_node, pass, PassesTo, last, more}
use Rattle.model.specs.Calls.{Writing, refuses, writes}
use Rattle.model.specs.Trace.{Row, trace, trace_run}
use Rattle.model.specs.PlanBytes.{plan_bytes_in, plan_bytes, arcs_of}
use Rattle.model.specs.Gap.{Group, one_task, task_set, in_group, releases, gap_plan, group_gap, GapKept}
use Rattle.model.specs.Combine.{pairs, many_pairs, combined, combine}
use Rattle.model.specs.Convert.{forth, back, widened}
use Rattle.model.specs.Controller.{registers, refusal_of, ran_to, after_write, writes_in, replay_number, replay_registers}
use Rattle.model.specs.Cap.{CapAnswer, exceeds, cap_run, cap}

-- what goes in: the bytes of a plan with those of a certificate or with labels, or of a certificate alone; p and q of a share; the bytes of
-- a plan to be sent forth or back, to be given a gap or to be combined with another, or of a certificate to be widened; the bytes of a plan and
-- of writes to its register block; those of a plan with a log of labels that is held against a cap
pub data Input : Type 0 where
  checking : List ℕ → List ℕ → Input
  tracing : List ℕ → List ℕ → Input
  potentials : List ℕ → Input
  printing : ℕ → ℕ → Input
  sending : List ℕ → Input
  returning : List ℕ → Input
  spacing : List ℕ → Group → (g : ℕ) → Input
  combining : List ℕ → List ℕ → Input
  widening : List ℕ → Input
  writing : List ℕ → List ℕ → Input
  capping : List ℕ → List ℕ → (k w : ℕ) → Input

-- what comes out: the numbers of the checked line; the task that ran, the gain and the task cut in each slot; the potentials; m; bytes;
-- a refusal; the number that is told of the last write, and the sixteen bytes; the first slot that exceeds a cap, or that none does
pub data Output : Type 0 where
  line : (p q n k : ℕ) (m : Option ℕ) → Output
  slots : List (ℕ × ℕ × ℕ) → Output
  signs : List ℤ → Output
  prints : Option ℕ → Output
  wrote : List ℕ → Output
  refusal : ℕ → Output
  block : ℕ → List ℕ → Output
  exceeded : ℕ → Output
  within : Output

abbrev pub checked : CheckAnswer → Output
checked (CheckAnswer.refused n) = refusal n
checked (CheckAnswer.share p q n k) = line p q n k (thousandths p q)

abbrev pub traced : Writing (List Row) → Output
traced (refuses n) = refusal n
traced (writes rs) = slots (map (λ r. (r.ran, r.gain, r.cut)) rs)

abbrev pub written : {A : Type 0} → (A → List ℕ) → Writing A → Output
written spell (refuses n) = refusal n
written spell (writes a) = wrote (spell a)

abbrev pub potentials_read : Option Certificate → Output
potentials_read none = signs []
potentials_read (some c) = signs c.potentials

abbrev pub capped : CapAnswer → Output
capped (CapAnswer.refused n) = refusal n
capped (CapAnswer.over t) = exceeded t
capped CapAnswer.kept = within

-- sixteen bytes that are lent
abbrev pub lent_bytes : List ℕ
lent_bytes = replicate 16 0xa5

-- what the definitions give, with just enough memory lent
abbrev pub outcome : Input → Output
outcome (checking plan certificate) = checked (check plan certificate work_room)
outcome (tracing plan labels) = traced (trace plan labels trace_room)
outcome (potentials certificate) = potentials_read (read_certificate certificate)
outcome (printing p q) = prints (thousandths p q)
outcome (sending plan) = written (plan_bytes_in long_reads) (forth plan (plan_room_in long_reads))
outcome (returning plan) = written (plan_bytes_in first_edition) (back plan (plan_room_in first_edition))
outcome (spacing plan group g) = written plan_bytes (group_gap plan group g plan_room)
outcome (combining plan other) = written plan_bytes (combine plan other plan_room)
outcome (widening certificate) = written certificate_bytes (widened certificate certificate_room)
outcome (writing plan bs) = block (replay_number (read_plan plan) (writes_in bs)) (replay_registers (read_plan plan) (writes_in bs) lent_bytes)
outcome (capping plan log k w) = capped (cap plan log k w)

pub record Case : Type 0 where
  pub input : Input
  pub output : Output

infix 10 ◌gives◌
abbrev pub ◌gives◌ : Input → Output → Case
i gives o = record { input = i; output = o }

-- A: `01 01 01 00 01 02 01 03 01 04 00 00 00 04 00 01 00 05`
abbrev pub plan_a : List ℕ
plan_a = 0x01 ∷ 0x01 ∷ 0x01 ∷ 0x00 ∷ 0x01 ∷ 0x02 ∷ 0x01 ∷ 0x03 ∷ 0x01 ∷ 0x04 ∷ 0x00 ∷ 0x00 ∷ 0x00 ∷ 0x04 ∷ 0x00 ∷ 0x01 ∷ 0x00 ∷ 0x05 ∷ []

-- B: tasks (1,1,1) and (2,2,3), EDF, one state admitting labels 0 to 3
abbrev pub plan_b : List ℕ
plan_b = 0x01 ∷ 0x01 ∷ 0x01 ∷ 0x00 ∷ 0x01 ∷ 0x01 ∷ 0x02 ∷ 0x02 ∷ 0x00 ∷ 0x03 ∷ 0x02 ∷ 0x01 ∷ 0x03 ∷ 0x01 ∷ 0x04 ∷ 0x00 ∷ 0x00 ∷ 0x00 ∷ 0x04 ∷ 0x00 ∷ 0x01 ∷ 0x00 ∷ 0x04 ∷ 0x00 ∷ 0x02 ∷ 0x00 ∷ 0x04 ∷ 0x00 ∷ 0x03 ∷ 0x00 ∷ 0x05 ∷ []

-- C: task (1,1,1), state 0 admits 1 to state 1, which admits 0 to itself
abbrev pub plan_c : List ℕ
plan_c = 0x01 ∷ 0x01 ∷ 0x01 ∷ 0x00 ∷ 0x01 ∷ 0x02 ∷ 0x01 ∷ 0x03 ∷ 0x02 ∷ 0x04 ∷ 0x00 ∷ 0x01 ∷ 0x01 ∷ 0x04 ∷ 0x01 ∷ 0x00 ∷ 0x01 ∷ 0x05 ∷ []

-- D: plan A without its two `04`
abbrev pub plan_d : List ℕ
plan_d = 0x01 ∷ 0x01 ∷ 0x01 ∷ 0x00 ∷ 0x01 ∷ 0x02 ∷ 0x01 ∷ 0x03 ∷ 0x01 ∷ 0x05 ∷ []

abbrev pub certificate_a : List ℕ
certificate_a = 0x11 ∷ 0x00 ∷ 0x00 ∷ 0x00 ∷ 0x01 ∷ 0x00 ∷ 0x00 ∷ 0x00 ∷ 0x01 ∷ 0x00 ∷ 0x01 ∷ 0x12 ∷ 0x00 ∷ 0x00 ∷ 0x00 ∷ 0x00 ∷ 0x00 ∷ 0x00 ∷ 0x00 ∷ 0x00 ∷ 0x13 ∷ 0x00 ∷ 0x00 ∷ 0x14 ∷ 0x01 ∷ 0x00 ∷ 0x01 ∷ 0x00 ∷ 0x00 ∷ 0x00 ∷ 0x00 ∷ 0x00 ∷ 0x00 ∷ 0x15 ∷ []

abbrev pub certificate_b : List ℕ
certificate_b = 0x11 ∷ 0x00 ∷ 0x00 ∷ 0x00 ∷ 0x00 ∷ 0x00 ∷ 0x00 ∷ 0x00 ∷ 0x01 ∷ 0x00 ∷ 0x05 ∷ 0x12 ∷ 0x00 ∷ 0x00 ∷ 0x00 ∷ 0x00 ∷ 0x00 ∷ 0x00 ∷ 0x00 ∷ 0x00 ∷ 0x12 ∷ 0x00 ∷ 0x00 ∷ 0x00 ∷ 0x00 ∷ 0x00 ∷ 0x00 ∷ 0x00 ∷ 0x00 ∷ 0x12 ∷ 0x00 ∷ 0x00 ∷ 0x00 ∷ 0x00 ∷ 0x00 ∷ 0x00 ∷ 0x00 ∷ 0x00 ∷ 0x12 ∷ 0x00 ∷ 0x00 ∷ 0x00 ∷ 0x00 ∷ 0x00 ∷ 0x00 ∷ 0x00 ∷ 0x01 ∷ 0x12 ∷ 0x00 ∷ 0x00 ∷ 0x00 ∷ 0x00 ∷ 0x00 ∷ 0x00 ∷ 0x00 ∷ 0x01 ∷ 0x13 ∷ 0x00 ∷ 0x04 ∷ 0x14 ∷ 0x02 ∷ 0x00 ∷ 0x00 ∷ 0x00 ∷ 0x00 ∷ 0x00 ∷ 0x00 ∷ 0x00 ∷ 0x00 ∷ 0x14 ∷ 0x02 ∷ 0x00 ∷ 0x00 ∷ 0x00 ∷ 0x03 ∷ 0x00 ∷ 0x00 ∷ 0x00 ∷ 0x00 ∷ 0x15 ∷ []

abbrev pub certificate_c : List ℕ
certificate_c = 0x11 ∷ 0x00 ∷ 0x00 ∷ 0x00 ∷ 0x01 ∷ 0x00 ∷ 0x00 ∷ 0x00 ∷ 0x00 ∷ 0x00 ∷ 0x02 ∷ 0x12 ∷ 0x00 ∷ 0x00 ∷ 0x00 ∷ 0x00 ∷ 0x00 ∷ 0x00 ∷ 0x00 ∷ 0x00 ∷ 0x12 ∷ 0xff ∷ 0xff ∷ 0xff ∷ 0xff ∷ 0xff ∷ 0xff ∷ 0xff ∷ 0xff ∷ 0x15 ∷ []

abbrev pub certificate_d : List ℕ
certificate_d = 0x11 ∷ 0x00 ∷ 0x00 ∷ 0x00 ∷ 0x01 ∷ 0x00 ∷ 0x00 ∷ 0x00 ∷ 0x00 ∷ 0x00 ∷ 0x01 ∷ 0x12 ∷ 0x00 ∷ 0x00 ∷ 0x00 ∷ 0x00 ∷ 0x00 ∷ 0x00 ∷ 0x00 ∷ 0x00 ∷ 0x15 ∷ []

-- F, of our own: task (10,10,1), EDF, a job every ten slots; its cycle has the mask of ten ones, `03 ff`
abbrev pub plan_f : List ℕ
plan_f =
    0x01 ∷ 0x0a ∷ 0x0a ∷ 0x00 ∷ 0x01 ∷ 0x02 ∷ 0x01 ∷ 0x03 ∷ 0x0a ∷ 0x04 ∷ 0x00 ∷ 0x01 ∷ 0x01
    ∷ (flat_map (λ s. 0x04 ∷ s ∷ 0x00 ∷ suc s ∷ []) (up_from 1 8) ++ (0x04 ∷ 0x09 ∷ 0x00 ∷ 0x00 ∷ 0x05 ∷ []))

abbrev pub certificate_f : List ℕ
certificate_f =
    let kept : List ℕ = 0x12 ∷ replicate 8 0x00 in
    let owed : List ℕ = 0x12 ∷ replicate 8 0xff in
    (0x11 ∷ 0x00 ∷ 0x00 ∷ 0x00 ∷ 0x01 ∷ 0x00 ∷ 0x00 ∷ 0x00 ∷ 0x01 ∷ 0x00 ∷ 0x13 ∷ kept)
    ++ (flat_map (λ i. kept ++ owed) (up_from 1 9)
    ++ ((0x13 ∷ 0x00 ∷ 0x00 ∷ 0x14 ∷ 0x01 ∷ 0x03 ∷ 0xff ∷ replicate 6 0x00)
    ++ (flat_map (λ i. 0x14 ∷ replicate 9 0x00) (up_from 1 9) ++ (0x15 ∷ []))))

-- G, of our own: tasks (1,1,1) and (2,4,3), EDF, one state admitting labels 0 to 3
abbrev pub plan_g : List ℕ
plan_g = 0x01 ∷ 0x01 ∷ 0x01 ∷ 0x00 ∷ 0x01 ∷ 0x01 ∷ 0x02 ∷ 0x04 ∷ 0x00 ∷ 0x03 ∷ 0x02 ∷ 0x01 ∷ 0x03 ∷ 0x01 ∷ 0x04 ∷ 0x00 ∷ 0x00 ∷ 0x00 ∷ 0x04 ∷ 0x00 ∷ 0x01 ∷ 0x00 ∷ 0x04 ∷ 0x00 ∷ 0x02 ∷ 0x00 ∷ 0x04 ∷ 0x00 ∷ 0x03 ∷ 0x00 ∷ 0x05 ∷ []

-- H, of the second implementation: task (2,3,28108), SP, a job every three slots; locked where these bytes are `09 01`
abbrev pub plan_h : List ℕ → List ℕ
plan_h locks =
    0x01 ∷ 0x02 ∷ 0x03 ∷ 0x6d ∷ 0xcc
    ∷ (locks ++ (0x02 ∷ 0x04 ∷ 0x03 ∷ 0x03 ∷ 0x04 ∷ 0x00 ∷ 0x01 ∷ 0x01 ∷ 0x04 ∷ 0x01 ∷ 0x00 ∷ 0x02 ∷ 0x04 ∷ 0x02 ∷ 0x00 ∷ 0x00 ∷ 0x05 ∷ []))

-- its certificate, where the job has so many masks, with the cycle in which it has this one
abbrev pub certificate_h : ℕ → ℕ → List ℕ
certificate_h count mask =
    let even : List ℕ = 0x12 ∷ replicate 8 0x00 in
    let owed : List ℕ = 0x12 ∷ (replicate 6 0xff ++ (0x92 ∷ 0x34 ∷ [])) in
    let idle : List ℕ = 0x14 ∷ replicate 9 0x00 in
    (0x11 ∷ 0x00 ∷ 0x00 ∷ 0x00 ∷ 0x01 ∷ 0x00 ∷ 0x00 ∷ 0x00 ∷ 0x01 ∷ 0x00 ∷ (count + 4) ∷ (even ++ even))
    ++ (flat_map (λ i. owed) (up_from 0 count) ++ (even ++ even))
    ++ ((0x13 ∷ 0x00 ∷ 0x00 ∷ 0x14 ∷ 0x01 ∷ 0x00 ∷ mask ∷ replicate 6 0x00) ++ (idle ++ (idle ++ (0x15 ∷ []))))

-- I, of our own: tasks (1,1,1) and (3,3,4), the second locked, EDF, one state admitting labels 0 to 3
abbrev pub plan_i : List ℕ
plan_i = 0x01 ∷ 0x01 ∷ 0x01 ∷ 0x00 ∷ 0x01 ∷ 0x01 ∷ 0x03 ∷ 0x03 ∷ 0x00 ∷ 0x04 ∷ 0x09 ∷ 0x02 ∷ 0x02 ∷ 0x01 ∷ 0x03 ∷ 0x01 ∷ 0x04 ∷ 0x00 ∷ 0x00 ∷ 0x00 ∷ 0x04 ∷ 0x00 ∷ 0x01 ∷ 0x00 ∷ 0x04 ∷ 0x00 ∷ 0x02 ∷ 0x00 ∷ 0x04 ∷ 0x00 ∷ 0x03 ∷ 0x00 ∷ 0x05 ∷ []

-- A and its certificate as the first edition has them: `01 01 01 01 02 01 03 01 04 00 00 00 04 00 01 00 05`
abbrev pub first_plan_a : List ℕ
first_plan_a = 0x01 ∷ 0x01 ∷ 0x01 ∷ 0x01 ∷ 0x02 ∷ 0x01 ∷ 0x03 ∷ 0x01 ∷ 0x04 ∷ 0x00 ∷ 0x00 ∷ 0x00 ∷ 0x04 ∷ 0x00 ∷ 0x01 ∷ 0x00 ∷ 0x05 ∷ []

abbrev pub first_certificate_a : List ℕ
first_certificate_a = 0x11 ∷ 0x00 ∷ 0x00 ∷ 0x00 ∷ 0x01 ∷ 0x00 ∷ 0x00 ∷ 0x00 ∷ 0x01 ∷ 0x00 ∷ 0x01 ∷ 0x12 ∷ 0x00 ∷ 0x00 ∷ 0x00 ∷ 0x00 ∷ 0x00 ∷ 0x00 ∷ 0x00 ∷ 0x00 ∷ 0x13 ∷ 0x00 ∷ 0x00 ∷ 0x14 ∷ 0x01 ∷ 0x01 ∷ 0x00 ∷ 0x00 ∷ 0x00 ∷ 0x15 ∷ []

-- plan D with another task
abbrev pub with_task : ℕ → ℕ → ℕ → List ℕ
with_task c d v = 0x01 ∷ c ∷ d ∷ 0x00 ∷ v ∷ 0x02 ∷ 0x01 ∷ 0x03 ∷ 0x01 ∷ 0x05 ∷ []

-- plan D with V 256
abbrev pub value_above : List ℕ
value_above = 0x01 ∷ 0x01 ∷ 0x01 ∷ 0x01 ∷ 0x00 ∷ 0x02 ∷ 0x01 ∷ 0x03 ∷ 0x01 ∷ 0x05 ∷ []

-- the task of plan D so many times
abbrev pub task_times : ℕ → List ℕ
task_times n = flat_map (λ i. 0x01 ∷ 0x01 ∷ 0x01 ∷ 0x00 ∷ 0x01 ∷ []) (up_from 1 n)

-- plan D with the task five times
abbrev pub five_tasks : List ℕ
five_tasks = task_times 4 ++ plan_d

-- plan D with the task twice and these bytes behind it
abbrev pub twice_with : List ℕ → List ℕ
twice_with bs = task_times 2 ++ (bs ++ (0x02 ∷ 0x01 ∷ 0x03 ∷ 0x01 ∷ 0x05 ∷ []))

-- J, of our own: three tasks (1,1,1), EDF, so many states and these arcs
abbrev pub plan_j : ℕ → List ℕ → List ℕ
plan_j states arcs = task_times 3 ++ (0x02 ∷ 0x01 ∷ 0x03 ∷ states ∷ (arcs ++ (0x05 ∷ [])))

-- plan D of the first edition, with these bytes behind its task
abbrev pub first_with : List ℕ → List ℕ
first_with bs = 0x01 ∷ 0x01 ∷ 0x01 ∷ 0x01 ∷ (bs ++ (0x02 ∷ 0x01 ∷ 0x03 ∷ 0x01 ∷ 0x05 ∷ []))

-- "Case B with labels 3, 0 now runs task 1, then task 2, and gains 1, then 0; its fraction becomes 0/1 with m 0"; "1/16 prints 62 and 3/16
-- prints 188", "`none` is kept for 1/0", and 1/3, of which the rest is 1 and no half of 3; "with D 11 in place of D 9"; "Trace case B has `0`, `2`,
-- `0` in it". Of our own: in B, with label 1 behind, a job that its deadline removed is not cut; in G task 2 is cut in slot 1 and not again
-- in slot 2, nor in slot 6, where the job that ran is done and the one that waits is another; A sent forth and back, long-read bytes sent
-- forth, D 9 and V 256 sent back, D 9 with a fault behind it, and A's certificate widened. Of locks: H takes a run of neighbouring bits and
-- refuses the mask 5, which it takes unlocked; in I task 2, once begun, runs on although task 1 has fewer slots left or as many, also where
-- it can't finish, but waits until it has begun; numbers that fall, stand twice or are not there, the last before the others; `09` before
-- and between tasks, after `02`, and in the first edition; and what is written, combined or sent back from a locked plan. Of a gap over a set,
-- in J: tasks 1 and 3 close each other and never share a slot, and task 2 is free; with a gap of 1 no two of three share a slot; a set of one,
-- and that task; no task, a task that the plan lacks, alone and with one that it has, a gap of 0 and of 17; and a plan's own fault first. Of
-- the register block: in C the second label is not admitted, which clears bytes 0 and 4 and leaves the gain; in B no slot passes on a label that is not
-- admitted, and task 2 is done in the next one; in A byte 5 follows the mask at once, both ways, 17 leaves every byte as it was, for a value and
-- for a byte, and a number without a value is no write; and with no plan there is no block. Of a cap, in B, where task 1 has one unit of work
-- and task 2 two: just w is allowed, in each slot and in rows of two, of which the one before is none; the first slot with more, counted from
-- 0, and one with fewer than k before it; a foreign bit, after a slot with more, and beside more in one slot; labels that C and D do not admit; in G
-- the work of task 2, and not its window; an empty log; the ends of both ranges; 18 before 13, and a plan's own fault before 18.
abbrev pub cases : List Case
cases =
    (checking plan_a certificate_a gives line 1 1 1 0 (some 1000))
    ∷ (checking plan_b certificate_b gives line 0 1 5 0 (some 0))
    ∷ (tracing plan_b (2 ∷ 1 ∷ 0 ∷ []) gives slots ((2, 0, 0) ∷ (1, 1, 2) ∷ (0, 0, 0) ∷ []))
    ∷ (tracing plan_b (3 ∷ 0 ∷ []) gives slots ((1, 1, 0) ∷ (2, 0, 0) ∷ []))
    ∷ (tracing plan_b (3 ∷ 0 ∷ 1 ∷ []) gives slots ((1, 1, 0) ∷ (2, 0, 0) ∷ (1, 1, 0) ∷ []))
    ∷ (tracing plan_g (2 ∷ 1 ∷ 1 ∷ 0 ∷ 2 ∷ 2 ∷ 1 ∷ []) gives slots ((2, 0, 0) ∷ (1, 1, 2) ∷ (1, 1, 0) ∷ (2, 3, 0) ∷ (2, 0, 0) ∷ (2, 3, 0) ∷ (1, 1, 0) ∷ []))
    ∷ (checking plan_c certificate_c gives line 1 0 2 1 none)
    ∷ (potentials certificate_c gives signs (pos 0 ∷ negsuc 0 ∷ []))
    ∷ (checking plan_d certificate_d gives line 1 0 1 0 none)
    ∷ (checking plan_f certificate_f gives line 1 1 19 1 (some 1000))
    ∷ (printing 1 16 gives prints (some 62))
    ∷ (printing 3 16 gives prints (some 188))
    ∷ (printing 1 3 gives prints (some 333))
    ∷ (printing 1 0 gives prints none)
    ∷ (checking [] [] gives refusal 1)
    ∷ (checking (with_task 1 11 1) [] gives refusal 4)
    ∷ (checking (with_task 1 1 0) [] gives refusal 4)
    ∷ (checking (with_task 3 2 1) [] gives refusal 4)
    ∷ (checking five_tasks [] gives refusal 3)
    ∷ (sending first_plan_a gives wrote plan_a)
    ∷ (sending plan_a gives refusal 4)
    ∷ (returning plan_a gives wrote first_plan_a)
    ∷ (returning (with_task 1 9 1) gives refusal 16)
    ∷ (returning value_above gives refusal 16)
    ∷ (returning (with_task 1 9 1 ++ (0x05 ∷ [])) gives refusal 3)
    ∷ (widening first_certificate_a gives wrote certificate_a)
    ∷ (checking (plan_h (0x09 ∷ 0x01 ∷ [])) (certificate_h 2 3) gives line 1 1 6 28108 (some 1000))
    ∷ (checking (plan_h (0x09 ∷ 0x01 ∷ [])) (certificate_h 2 5) gives refusal 10)
    ∷ (checking (plan_h []) (certificate_h 3 5) gives line 1 1 7 28108 (some 1000))
    ∷ (tracing plan_i (2 ∷ 1 ∷ 1 ∷ []) gives slots ((2, 0, 0) ∷ (2, 0, 0) ∷ (2, 4, 0) ∷ []))
    ∷ (tracing plan_i (3 ∷ 0 ∷ 1 ∷ []) gives slots ((1, 1, 0) ∷ (2, 0, 0) ∷ (2, 0, 0) ∷ []))
    ∷ (checking (twice_with (0x09 ∷ 0x02 ∷ 0x09 ∷ 0x01 ∷ [])) [] gives refusal 3)
    ∷ (checking (twice_with (0x09 ∷ 0x01 ∷ 0x09 ∷ 0x01 ∷ [])) [] gives refusal 3)
    ∷ (checking (twice_with (0x09 ∷ 0x03 ∷ [])) [] gives refusal 4)
    ∷ (checking (twice_with (0x09 ∷ 0x01 ∷ 0x09 ∷ 0x00 ∷ [])) [] gives refusal 4)
    ∷ (checking (0x09 ∷ 0x01 ∷ plan_d) [] gives refusal 3)
    ∷ (checking (twice_with (0x09 ∷ 0x01 ∷ task_times 1)) [] gives refusal 3)
    ∷ (checking (task_times 1 ++ (0x02 ∷ 0x01 ∷ 0x09 ∷ 0x01 ∷ 0x03 ∷ 0x01 ∷ 0x05 ∷ [])) [] gives refusal 3)
    ∷ (sending (first_with (0x09 ∷ 0x01 ∷ [])) gives refusal 2)
    ∷ (returning (twice_with (0x09 ∷ 0x01 ∷ [])) gives refusal 16)
    ∷ (spacing (plan_h (0x09 ∷ 0x01 ∷ [])) (one_task 1) 1 gives wrote (0x01 ∷ 0x02 ∷ 0x03 ∷ 0x6d ∷ 0xcc ∷ 0x09 ∷ 0x01 ∷ 0x02 ∷ 0x04 ∷ 0x03 ∷ 0x01 ∷ 0x04 ∷ 0x00 ∷ 0x00 ∷ 0x00 ∷ 0x04 ∷ 0x00 ∷ 0x01 ∷ 0x00 ∷ 0x05 ∷ []))
    ∷ (combining (twice_with (0x09 ∷ 0x02 ∷ [])) (twice_with (0x09 ∷ 0x02 ∷ [])) gives wrote (twice_with (0x09 ∷ 0x02 ∷ [])))
    ∷ (combining (twice_with (0x09 ∷ 0x02 ∷ [])) (twice_with []) gives refusal 4)
    ∷ (spacing (plan_j 1 []) (task_set 5) 2 gives wrote (plan_j 2 (0x04 ∷ 0x00 ∷ 0x00 ∷ 0x00 ∷ 0x04 ∷ 0x00 ∷ 0x01 ∷ 0x01 ∷ 0x04 ∷ 0x00 ∷ 0x02 ∷ 0x00 ∷ 0x04 ∷ 0x00 ∷ 0x03 ∷ 0x01 ∷ 0x04 ∷ 0x00 ∷ 0x04 ∷ 0x01 ∷ 0x04 ∷ 0x00 ∷ 0x06 ∷ 0x01 ∷ 0x04 ∷ 0x01 ∷ 0x00 ∷ 0x00 ∷ 0x04 ∷ 0x01 ∷ 0x02 ∷ 0x00 ∷ [])))
    ∷ (spacing (plan_j 1 []) (task_set 7) 1 gives wrote (plan_j 1 (0x04 ∷ 0x00 ∷ 0x00 ∷ 0x00 ∷ 0x04 ∷ 0x00 ∷ 0x01 ∷ 0x00 ∷ 0x04 ∷ 0x00 ∷ 0x02 ∷ 0x00 ∷ 0x04 ∷ 0x00 ∷ 0x04 ∷ 0x00 ∷ [])))
    ∷ (spacing (plan_j 1 []) (task_set 4) 2 gives wrote (plan_j 2 (0x04 ∷ 0x00 ∷ 0x00 ∷ 0x00 ∷ 0x04 ∷ 0x00 ∷ 0x01 ∷ 0x00 ∷ 0x04 ∷ 0x00 ∷ 0x02 ∷ 0x00 ∷ 0x04 ∷ 0x00 ∷ 0x03 ∷ 0x00 ∷ 0x04 ∷ 0x00 ∷ 0x04 ∷ 0x01 ∷ 0x04 ∷ 0x00 ∷ 0x05 ∷ 0x01 ∷ 0x04 ∷ 0x00 ∷ 0x06 ∷ 0x01 ∷ 0x04 ∷ 0x00 ∷ 0x07 ∷ 0x01 ∷ 0x04 ∷ 0x01 ∷ 0x00 ∷ 0x00 ∷ 0x04 ∷ 0x01 ∷ 0x01 ∷ 0x00 ∷ 0x04 ∷ 0x01 ∷ 0x02 ∷ 0x00 ∷ 0x04 ∷ 0x01 ∷ 0x03 ∷ 0x00 ∷ [])))
    ∷ (spacing (plan_j 1 []) (one_task 3) 2 gives wrote (plan_j 2 (0x04 ∷ 0x00 ∷ 0x00 ∷ 0x00 ∷ 0x04 ∷ 0x00 ∷ 0x01 ∷ 0x00 ∷ 0x04 ∷ 0x00 ∷ 0x02 ∷ 0x00 ∷ 0x04 ∷ 0x00 ∷ 0x03 ∷ 0x00 ∷ 0x04 ∷ 0x00 ∷ 0x04 ∷ 0x01 ∷ 0x04 ∷ 0x00 ∷ 0x05 ∷ 0x01 ∷ 0x04 ∷ 0x00 ∷ 0x06 ∷ 0x01 ∷ 0x04 ∷ 0x00 ∷ 0x07 ∷ 0x01 ∷ 0x04 ∷ 0x01 ∷ 0x00 ∷ 0x00 ∷ 0x04 ∷ 0x01 ∷ 0x01 ∷ 0x00 ∷ 0x04 ∷ 0x01 ∷ 0x02 ∷ 0x00 ∷ 0x04 ∷ 0x01 ∷ 0x03 ∷ 0x00 ∷ [])))
    ∷ (spacing (plan_j 1 []) (task_set 0) 2 gives refusal 14)
    ∷ (spacing (plan_j 1 []) (task_set 8) 2 gives refusal 14)
    ∷ (spacing (plan_j 1 []) (task_set 9) 2 gives refusal 14)
    ∷ (spacing (plan_j 1 []) (task_set 7) 0 gives refusal 14)
    ∷ (spacing (plan_j 1 []) (task_set 7) 17 gives refusal 14)
    ∷ (spacing (plan_j 1 [] ++ (0x05 ∷ [])) (task_set 0) 2 gives refusal 3)
    ∷ (writing plan_c (0 ∷ 1 ∷ 1 ∷ 1 ∷ 0 ∷ 1 ∷ 1 ∷ 1 ∷ []) gives block 0 (0 ∷ 0 ∷ 2 ∷ 0 ∷ 0 ∷ 0 ∷ 0 ∷ 0 ∷ 0 ∷ 0 ∷ 0 ∷ 1 ∷ 0 ∷ 0 ∷ 0 ∷ 0 ∷ []))
    ∷ (writing plan_b (0 ∷ 2 ∷ 1 ∷ 1 ∷ 0 ∷ 4 ∷ 1 ∷ 1 ∷ 0 ∷ 0 ∷ 1 ∷ 1 ∷ []) gives block 0 (0 ∷ 0 ∷ 1 ∷ 0 ∷ 2 ∷ 0 ∷ 0 ∷ 0 ∷ 0 ∷ 0 ∷ 0 ∷ 3 ∷ 0 ∷ 0 ∷ 0 ∷ 0 ∷ []))
    ∷ (writing plan_a (0 ∷ 1 ∷ 1 ∷ 1 ∷ 3 ∷ 1 ∷ []) gives block 0 (0 ∷ 0 ∷ 1 ∷ 1 ∷ 1 ∷ 1 ∷ 0 ∷ 0 ∷ 0 ∷ 0 ∷ 0 ∷ 1 ∷ 0 ∷ 0 ∷ 0 ∷ 0 ∷ []))
    ∷ (writing plan_a (0 ∷ 1 ∷ 1 ∷ 1 ∷ 3 ∷ 1 ∷ 3 ∷ 0xfe ∷ []) gives block 0 (0 ∷ 0 ∷ 1 ∷ 0xfe ∷ 1 ∷ 0 ∷ 0 ∷ 0 ∷ 0 ∷ 0 ∷ 0 ∷ 1 ∷ 0 ∷ 0 ∷ 0 ∷ 0 ∷ []))
    ∷ (writing plan_a (3 ∷ 1 ∷ 0 ∷ 1 ∷ 1 ∷ 2 ∷ []) gives block 17 (1 ∷ 0 ∷ 0 ∷ 1 ∷ 0 ∷ 0 ∷ 0 ∷ 0 ∷ 0 ∷ 0 ∷ 0 ∷ 0 ∷ 0 ∷ 0 ∷ 0 ∷ 0 ∷ []))
    ∷ (writing plan_a (0 ∷ 1 ∷ 2 ∷ 1 ∷ []) gives block 17 (1 ∷ 0 ∷ 0 ∷ 0 ∷ 0 ∷ 0 ∷ 0 ∷ 0 ∷ 0 ∷ 0 ∷ 0 ∷ 0 ∷ 0 ∷ 0 ∷ 0 ∷ 0 ∷ []))
    ∷ (writing plan_a (0 ∷ 1 ∷ 1 ∷ []) gives block 0 (1 ∷ 0 ∷ 0 ∷ 0 ∷ 0 ∷ 0 ∷ 0 ∷ 0 ∷ 0 ∷ 0 ∷ 0 ∷ 0 ∷ 0 ∷ 0 ∷ 0 ∷ 0 ∷ []))
    ∷ (writing [] (0 ∷ 1 ∷ []) gives block 1 lent_bytes)
    ∷ (capping plan_b (3 ∷ 3 ∷ []) 1 3 gives within)
    ∷ (capping plan_b (2 ∷ 1 ∷ 2 ∷ []) 2 3 gives within)
    ∷ (capping plan_b (1 ∷ 2 ∷ 3 ∷ 3 ∷ []) 2 4 gives exceeded 2)
    ∷ (capping plan_b (3 ∷ []) 5 2 gives exceeded 0)
    ∷ (capping plan_b (0 ∷ 4 ∷ []) 1 0 gives refusal 13)
    ∷ (capping plan_b (3 ∷ 4 ∷ []) 1 2 gives exceeded 0)
    ∷ (capping plan_b (0 ∷ 7 ∷ []) 1 2 gives refusal 13)
    ∷ (capping plan_c (1 ∷ 1 ∷ 1 ∷ []) 2 2 gives within)
    ∷ (capping plan_d (1 ∷ []) 1 0 gives exceeded 0)
    ∷ (capping plan_g (2 ∷ []) 1 2 gives within)
    ∷ (capping plan_b [] 1 0 gives within)
    ∷ (capping plan_b (3 ∷ []) 64 2560 gives within)
    ∷ (capping plan_b (4 ∷ []) 0 0 gives refusal 18)
    ∷ (capping plan_b [] 65 0 gives refusal 18)
    ∷ (capping plan_b [] 1 2561 gives refusal 18)
    ∷ (capping (plan_b ++ (0x05 ∷ [])) [] 0 0 gives refusal 3)
    ∷ []

-- the definitions give every case its output
pub marked : map (λ c. outcome c.input) cases ≡ map (λ c. c.output) cases
unfolding number signed read_plan_in read_from first_fault fault after width last_operand may_follow in_range task_in_range arc_in_range slot ready first policy_key key free_masks neighbouring masks_of choices edge_of edges_at edges found nodes too_large read_certificate_in read_potentials read_steps check verdict fraction_ok gcd potentials_ok cycle_ok follow allowance thousandths trace trace_run forth back widened arcs_of releases gap_plan group_gap pairs many_pairs combined combine plan_bytes_in certificate_bytes_in bytes complement registers refusal_of ran_to after_write exceeds cap_run cap
marked = refl

-- ---- the passes of A, B and C, and of a plan whose nodes have to be taken by number

-- E, of the second implementation: task (2,2,69), SRT, one state admitting labels 0 and 1
abbrev pub plan_e : List ℕ
plan_e = 0x01 ∷ 0x02 ∷ 0x02 ∷ 0x00 ∷ 0x45 ∷ 0x02 ∷ 0x02 ∷ 0x03 ∷ 0x01 ∷ 0x04 ∷ 0x00 ∷ 0x00 ∷ 0x00 ∷ 0x04 ∷ 0x00 ∷ 0x01 ∷ 0x00 ∷ 0x05 ∷ []

-- the plans
abbrev pub read_a : Plan
read_a = record { tasks = record { work = 1; window = 1; value = 1; locked = false } ∷ []; policy = 1; states = 1; arcs = map (λ l. record { from = 0; label = l; to = 0 }) (up_from 0 2) }

abbrev pub read_b : Plan
read_b = record { tasks = record { work = 1; window = 1; value = 1; locked = false } ∷ record { work = 2; window = 2; value = 3; locked = false } ∷ []; policy = 1; states = 1; arcs = map (λ l. record { from = 0; label = l; to = 0 }) (up_from 0 4) }

abbrev pub read_c : Plan
read_c = record { tasks = record { work = 1; window = 1; value = 1; locked = false } ∷ []; policy = 1; states = 2; arcs = record { from = 0; label = 1; to = 1 } ∷ record { from = 1; label = 0; to = 1 } ∷ [] }

abbrev pub read_e : Plan
read_e = record { tasks = record { work = 2; window = 2; value = 69; locked = false } ∷ []; policy = 2; states = 1; arcs = map (λ l. record { from = 0; label = l; to = 0 }) (up_from 0 2) }

-- plan bytes are read as P, and the passes at p/q find these potentials
pub record PassesFor (plan : List ℕ) (P : Plan) (p q : ℕ) (zs : List ℤ) (k : ℕ) : Type 0 where
  pub read : read_plan plan ≡ sound P
  pub passes : PassesTo P p q (beginning (length (nodes P))) (map some zs) k

-- "1 in case A, 2 in case C", and 2 in case B
pub passes-A : PassesFor plan_a read_a 1 1 (pos 0 ∷ []) 1
unfolding number read_plan_in read_from first_fault fault after width last_operand may_follow in_range task_in_range arc_in_range slot ready first policy_key key free_masks neighbouring masks_of choices edge_of edges_at edges found nodes relax_node pass
passes-A = record { read = refl; passes = last refl }

pub passes-B : PassesFor plan_b read_b 0 1 (pos 0 ∷ pos 0 ∷ pos 0 ∷ pos 1 ∷ pos 1 ∷ []) 2
unfolding number read_plan_in read_from first_fault fault after width last_operand may_follow in_range task_in_range arc_in_range slot ready first policy_key key free_masks neighbouring masks_of choices edge_of edges_at edges found nodes relax_node pass
passes-B =
    let end = map some (pos 0 ∷ pos 0 ∷ pos 0 ∷ pos 1 ∷ pos 1 ∷ []) in
    record { read = refl; passes = more {ds = beginning 5} {es = end} refl (last {ds = end} refl) }

pub passes-C : PassesFor plan_c read_c 1 0 (pos 0 ∷ negsuc 0 ∷ []) 2
unfolding number read_plan_in read_from first_fault fault after width last_operand may_follow in_range task_in_range arc_in_range slot ready first policy_key key free_masks neighbouring masks_of choices edge_of edges_at edges found nodes relax_node pass
passes-C = record { read = refl; passes = more refl (last refl) }

-- and 2 for E, since a node's distance that a pass finds serves the nodes after it in the same pass
pub passes-E : PassesFor plan_e read_e 0 1 (pos 0 ∷ pos 0 ∷ pos 0 ∷ pos 69 ∷ pos 69 ∷ []) 2
unfolding number read_plan_in read_from first_fault fault after width last_operand may_follow in_range task_in_range arc_in_range slot ready first policy_key key free_masks neighbouring masks_of choices edge_of edges_at edges found nodes relax_node pass
passes-E =
    let end = map some (pos 0 ∷ pos 0 ∷ pos 0 ∷ pos 69 ∷ pos 69 ∷ []) in
    record { read = refl; passes = more {ds = beginning 5} {es = end} refl (last {ds = end} refl) }

-- ---- what does not keep a gap over tasks 1 and 2

abbrev pub both_tasks : ℕ → Bool
both_tasks = in_group (task_set 3)

-- releases of two tasks are no single one
two_apart : (g s t i j : ℕ) → i < j → ((s ≡ t) × (i ≡ j)) ⊎ (s + g ≤ t) → s + g ≤ t
two_apart g s t i j h e = ⊎_elim (λ same. absurd (omega (arith, same.1))) (λ far. far) e

-- "so two of them never share a slot", with a gap of 1 neither
pub no_slot_shared : GapKept both_tasks 2 1 (3 ∷ []) → ⊥
no_slot_shared k =
    omega (
      arith,
      two_apart 1 0 0 1 2 (omega arith)
          (k.apart 0 1 0 2 (record { slot = omega arith; numbered = omega arith; released = tt; of_group = tt })
          (record { slot = omega arith; numbered = omega arith; released = tt; of_group = tt }) (omega arith)),
    )

-- and the gap is not counted for each task by itself
pub tasks_close_each-other : GapKept both_tasks 2 2 (1 ∷ 2 ∷ []) → ⊥
tasks_close_each-other k =
    omega (
      arith,
      two_apart 2 0 1 1 2 (omega arith)
          (k.apart 0 1 1 2 (record { slot = omega arith; numbered = omega arith; released = tt; of_group = tt })
          (record { slot = omega arith; numbered = omega arith; released = tt; of_group = tt }) (omega arith)),
    )
