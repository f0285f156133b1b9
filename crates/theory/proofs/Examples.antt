-- The claim of marked cases.
-- Assumes nothing.
use mathlib.Core.Path.{◌≡◌, refl, ap}
use mathlib.Core.List.{List, [], ◌∷◌, Memᴰ}
use mathlib.Core.Option.{some}
use Prim.Native.Nat.{ℕ, zero, suc, ◌+◌}
use native.Mathlib.Omega.{arith}
use lib.IntN.{pos, negsuc}
use lib.ListN.{replicate}
use Rattle.model.specs.Limits.{work_room}
use Rattle.model.specs.Bytes.{number, bytes, signed, complement}
use Rattle.model.specs.Cases.{plan_a, plan_b, plan_c, certificate_a, certificate_b, certificate_c, read_a, read_b, read_c, passes-A, passes-B, passes-C}
use Rattle.model.specs.Plan.{Plan, sound, read_plan, read_plan_in, read_from, first_fault, fault, after, width, last_operand, may_follow, in_range, task_in_range, arc_in_range}
use Rattle.model.specs.Slot.{Job, chosen_in, slot, ready, first, policy_key, key}
use Rattle.model.specs.Schedule.{gain_from, policy_gain}
use Rattle.model.specs.Hopeless.{Hopeless}
use Rattle.model.specs.Masks.{free_masks, masks_of}
use Rattle.model.specs.Discovery.{found}
use Rattle.model.specs.Graph.{Edge, choices, edge_of, edges_at, edges, nodes, too_large}
use Rattle.model.specs.Share.{KeptShare}
use Rattle.model.specs.Walk.{here, go}
use Rattle.model.specs.Certificate.{Certificate, read_certificate, read_potentials, read_steps, certificate_bytes_in, read_certificate_in}
use Rattle.model.specs.Check.{check, verdict, fraction_ok, gcd, potentials_ok, cycle_ok, follow, allowance}
use Rattle.model.specs.Thousandths.{thousandths}
use Rattle.model.specs.Solve.{Solved}
use Rattle.model.specs.Text.{decimal, check_text}
use Rattle.theory.proofs.Claim.{check-plan}
use Rattle.theory.proofs.Distances.{AllSmallest, pass_smallest}
use Rattle.theory.proofs.Unique.{SameButCycle, solved-once}

-- B: nothing is kept for certain, whatever is allowed
pub claim-B : (P : Plan) × (read_plan plan_b ≡ sound P) × KeptShare P 0 1 0
unfolding number signed read_plan_in read_from first_fault fault after width last_operand may_follow in_range task_in_range arc_in_range slot ready first policy_key key free_masks masks_of choices edge_of edges_at edges found nodes too_large read_certificate_in read_potentials read_steps check verdict fraction_ok gcd potentials_ok cycle_ok follow allowance
claim-B = check-plan plan_b certificate_b work_room {N = 5} refl

-- and its line is `0 1 5 0 0`
pub line-B : check_text (check plan_b certificate_b work_room) ≡ 48 ∷ 32 ∷ 49 ∷ 32 ∷ 53 ∷ 32 ∷ 48 ∷ 32 ∷ 48 ∷ 10 ∷ []
unfolding number signed read_plan_in read_from first_fault fault after width last_operand may_follow in_range task_in_range arc_in_range slot ready first policy_key key free_masks masks_of choices edge_of edges_at edges found nodes too_large read_certificate_in read_potentials read_steps check verdict fraction_ok gcd potentials_ok cycle_ok follow allowance thousandths decimal check_text
line-B = refl

-- a job of B's second task that can't finish
abbrev stuck : Job
stuck = record { task = 2; work = 2; left = 1 }

-- "labels 3, then 2 in every slot, keep the policy on hopeless jobs": each of them leaves one like it
pub hopeless-B : Hopeless stuck × ((slot read_b [] 3).jobs ≡ stuck ∷ []) × (chosen_in read_b (stuck ∷ []) 2 ≡ some stuck) × ((slot read_b (stuck ∷ []) 2).jobs ≡ stuck ∷ [])
unfolding slot ready first policy_key key
hopeless-B = (record { present = omega arith; short = omega arith }, refl, refl, refl)

-- so the policy gains 1, however long that goes on
pub gain-B : (n : ℕ) → policy_gain read_b (3 ∷ replicate n 2) ≡ 1
unfolding slot ready first policy_key key
gain-B n = ap (λ g. 1 + g) (none n)
  where
    none : (m : ℕ) → gain_from read_b (stuck ∷ []) (replicate m 2) ≡ 0
    none zero = refl
    none (suc m) = ap (λ g. 0 + g) (none m)

-- C: no schedule gains more than 1
pub claim-C : (P : Plan) × (read_plan plan_c ≡ sound P) × KeptShare P 1 0 1
unfolding number signed read_plan_in read_from first_fault fault after width last_operand may_follow in_range task_in_range arc_in_range slot ready first policy_key key free_masks masks_of choices edge_of edges_at edges found nodes too_large read_certificate_in read_potentials read_steps check verdict fraction_ok gcd potentials_ok cycle_ok follow allowance
claim-C = check-plan plan_c certificate_c work_room {N = 2} refl

-- the certificate that the bytes of A are
abbrev written_a : Certificate
written_a = record { p = 1; q = 1; potentials = pos 0 ∷ []; node = 0; steps = record { label = 1; masks = 1 ∷ 0 ∷ 0 ∷ 0 ∷ [] } ∷ [] }

-- A: the solver may write this certificate, after "1 in case A"
pub solved-A : (read_certificate certificate_a ≡ some written_a) × Solved read_a written_a 1
unfolding number bytes signed complement read_plan_in read_from first_fault fault after width last_operand may_follow in_range task_in_range arc_in_range slot ready first policy_key key free_masks masks_of choices edge_of edges_at edges found nodes too_large certificate_bytes_in read_certificate_in read_potentials read_steps check verdict fraction_ok gcd potentials_ok cycle_ok follow allowance
solved-A = (refl, record { form = refl; accepted = refl; potentials = smallest; passes = passes-A.passes; few = omega arith })
  where
    smallest : AllSmallest read_a 1 1 written_a.potentials
    smallest zero h = pass_smallest read_a refl 1 1 written_a.potentials refl refl 0 h here refl
    smallest (suc i) h = absurd (omega arith)

-- so, whatever it writes, it makes one pass
pub one-pass-A : {c : Certificate} {k : ℕ} → Solved read_a c k → k ≡ 1
unfolding slot ready first policy_key key free_masks masks_of choices edge_of edges_at edges found nodes too_large
one-pass-A s = (solved-once (record { bytes = plan_a; read = passes-A.read }) refl s solved-A.1).passes

-- from the fourth element on
fourth : {e a b c : Edge} {es : List Edge} → Memᴰ e es → Memᴰ e (a ∷ b ∷ c ∷ es)
fourth m = Memᴰ.tail (Memᴰ.tail (Memᴰ.tail m))

-- the certificate that the bytes of B are, at 0/1
abbrev written_b : Certificate
written_b = record {
  p = 0;
  q = 1;
  potentials = pos 0 ∷ pos 0 ∷ pos 0 ∷ pos 1 ∷ pos 1 ∷ [];
  node = 4;
  steps = record { label = 2; masks = 0 ∷ 0 ∷ 0 ∷ 0 ∷ [] } ∷ record { label = 2; masks = 0 ∷ 3 ∷ 0 ∷ 0 ∷ [] } ∷ [];
}

-- B: the solver may write this certificate, after two passes; the fourth to the seventh edge of the start lead to the other nodes
pub solved-B : (read_certificate certificate_b ≡ some written_b) × Solved read_b written_b 2
unfolding number bytes signed complement read_plan_in read_from first_fault fault after width last_operand may_follow in_range task_in_range arc_in_range slot ready first policy_key key free_masks masks_of choices edge_of edges_at edges found nodes too_large certificate_bytes_in read_certificate_in read_potentials read_steps check verdict fraction_ok gcd potentials_ok cycle_ok follow allowance
solved-B = (refl, record { form = refl; accepted = refl; potentials = smallest; passes = passes-B.passes; few = omega arith })
  where
    smallest : AllSmallest read_b 0 1 written_b.potentials
    smallest zero h = pass_smallest read_b refl 0 1 written_b.potentials refl refl 0 h here refl
    smallest (suc zero) h = pass_smallest read_b refl 0 1 written_b.potentials refl refl 1 h (go (fourth (Memᴰ.head refl)) here) refl
    smallest (suc (suc zero)) h = pass_smallest read_b refl 0 1 written_b.potentials refl refl 2 h (go (fourth (Memᴰ.tail (Memᴰ.head refl))) here) refl
    smallest (suc (suc (suc zero))) h = pass_smallest read_b refl 0 1 written_b.potentials refl refl 3 h (go (fourth (Memᴰ.tail (Memᴰ.tail (Memᴰ.head refl)))) here) refl
    smallest (suc (suc (suc (suc zero)))) h = pass_smallest read_b refl 0 1 written_b.potentials refl refl 4 h (go (fourth (Memᴰ.tail (Memᴰ.tail (Memᴰ.tail (Memᴰ.head refl))))) here) refl
    smallest (suc (suc (suc (suc (suc i))))) h = absurd (omega arith)

-- so, whatever it writes, it writes this fraction and these potentials, after two passes
pub only-B : {c : Certificate} {k : ℕ} → Solved read_b c k → SameButCycle c written_b k 2
unfolding slot ready first policy_key key free_masks masks_of choices edge_of edges_at edges found nodes too_large
only-B s = solved-once (record { bytes = plan_b; read = passes-B.read }) refl s solved-B.1

-- the certificate that the bytes of C are
abbrev written_c : Certificate
written_c = record { p = 1; q = 0; potentials = pos 0 ∷ negsuc 0 ∷ []; node = 0; steps = [] }

-- C: "potentials 0, −1" are the smallest sums, so this is the only certificate that the solver may write, after "2 in case C"
pub solved-C : (read_certificate certificate_c ≡ some written_c) × Solved read_c written_c 2
unfolding number bytes signed complement read_plan_in read_from first_fault fault after width last_operand may_follow in_range task_in_range arc_in_range slot ready first policy_key key free_masks masks_of choices edge_of edges_at edges found nodes too_large certificate_bytes_in read_certificate_in read_potentials read_steps check verdict fraction_ok gcd potentials_ok cycle_ok follow allowance
solved-C = (refl, record { form = refl; accepted = refl; potentials = smallest; passes = passes-C.passes; few = omega arith })
  where
    smallest : AllSmallest read_c 1 0 written_c.potentials
    smallest zero h = pass_smallest read_c refl 1 0 written_c.potentials refl refl 0 h here refl
    smallest (suc zero) h = pass_smallest read_c refl 1 0 written_c.potentials refl refl 1 h (go (Memᴰ.tail (Memᴰ.head refl)) here) refl
    smallest (suc (suc i)) h = absurd (omega arith)

-- so, whatever it writes, it makes two passes
pub two_passes-C : {c : Certificate} {k : ℕ} → Solved read_c c k → k ≡ 2
unfolding slot ready first policy_key key free_masks masks_of choices edge_of edges_at edges found nodes too_large
two_passes-C s = (solved-once (record { bytes = plan_c; read = passes-C.read }) refl s solved-C.1).passes
