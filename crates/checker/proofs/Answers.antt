-- The answer of a check, by its tests. Assumes nothing.
use mathlib.Core.Path.{◌≡◌, refl, sym, ap, subst, ◌∙◌}
use mathlib.Core.Bool.{Bool, true, false, cond}
use mathlib.Core.List.{List}
use mathlib.Core.Option.{none, some, none-ne-some}
use Prim.Native.Nat.{ℕ, ◌≤◌, ◌<◌}
use lib.ListN.{length}
use lib.Dec.{leb}
use borrow.Author.Tests.{lt-ltb, le-ltb, lt-leb, le-leb}
use Rattle.model.specs.Bytes.{cleared, work_after}
use Rattle.model.specs.Certificate.{read_certificate}
use Rattle.model.specs.Check.{refused, check_read, check_plan, check}
use Rattle.model.specs.Graph.{too_large}
use Rattle.model.specs.Limits.{work_room}
use Rattle.model.specs.Plan.{Plan, IsSound, read_plan, sound}
use Rattle.model.specs.Refusals.{too_many_nodes, short_memory}
use Rattle.theory.proofs.Claim.{check-claim}
use Rattle.plan.specs.View.{plan_of}
use Rattle.plan.specs.declared.tasks.Plan as plan
use Rattle.machine.specs.Machine.{MachineOf}
use Rattle.machine.specs.declared.Machine.{Machine}
use Rattle.graph.specs.View.{Planned}
use Rattle.graph.proofs.View.{planned-of}
use Rattle.checker.specs.Promise.{Answer, answer_of, Checks}

-- a machine's rules and table are its plan's
pub planned_by : {p : plan.Plan} {m : Machine} → IsSound (plan_of p) → MachineOf p m → Planned (plan_of p) m.rules m.next
planned_by {p} {m} is_sound of = subst (Planned (plan_of p) m.rules) (sym of.next) (planned-of p m.rules is_sound of.rules)

-- too many, or a number
pub large : (P : Plan) (n : ℕ) (bs : List ℕ) → none ≡ cond (too_large P) none (some n) → refused too_many_nodes ≡ check_plan (sound P) bs
large P n bs e = by (too_large P) e
  where
    by : (b : Bool) → none ≡ cond b none (some n) → refused too_many_nodes ≡ cond b (refused too_many_nodes) (check_read P (read_certificate bs))
    by true k = refl
    by false k = absurd (none-ne-some n k)

pub small : (P : Plan) (n k : ℕ) (bs : List ℕ) → some k ≡ cond (too_large P) none (some n) → check_read P (read_certificate bs) ≡ check_plan (sound P) bs
small P n k bs e = by (too_large P) e
  where
    by : (b : Bool) → some k ≡ cond b none (some n) → check_read P (read_certificate bs) ≡ cond b (refused too_many_nodes) (check_read P (read_certificate bs))
    by true h = absurd (none-ne-some k (sym h))
    by false h = refl

-- an answer that is the definition's, and what it promises of memory
module _ (plan certificate before : List ℕ) (r : Answer) where
  checked : (after : List ℕ) → answer_of r ≡ check plan certificate (length before) → after ≡ work_after (leb work_room (length before)) before → Checks plan certificate before after r
  checked after answer memory = record {
    answer = answer;
    claim = λ P read p q n k e. check-claim plan certificate (length before) (sym answer ∙ e) P read;
    memory = memory;
  }

  pub short : length before < work_room → answer_of r ≡ refused short_memory → Checks plan certificate before before r
  unfolding check
  short h e =
      checked before (e ∙ sym (ap (λ (b : Bool). cond b (refused short_memory) (check_plan (read_plan plan) certificate)) (lt-ltb (length before) work_room h)))
      (sym (ap (λ (b : Bool). work_after b before) (lt-leb work_room (length before) h)))

  pub enough : (after : List ℕ) → work_room ≤ length before → answer_of r ≡ check_plan (read_plan plan) certificate → after ≡ cleared before →
      Checks plan certificate before after r
  unfolding check
  enough after h e clear =
      checked after (e ∙ sym (ap (λ (b : Bool). cond b (refused short_memory) (check_plan (read_plan plan) certificate)) (le-ltb (length before) work_room h)))
      (clear ∙ sym (ap (λ (b : Bool). work_after b before) (le-leb work_room (length before) h)))
