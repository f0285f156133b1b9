-- A group's gap is that of the set of its tasks.
-- Assumes nothing.
use mathlib.Core.Path.{◌≡◌, refl, sym, ap, ◌∙◌}
use mathlib.Core.Bool.{Bool, true, false, cond}
use mathlib.Core.List.{List}
use Prim.Native.Nat.{ℕ, ◌-◌, ◌^◌}
use native.Mathlib.Omega.{arith}
use borrow.Author.Tests.{leb-true}
use lib.Dec.{leb}
use lib.ListN.{length}
use Rattle.model.specs.Calls.{with_room, with_plan}
use Rattle.model.specs.Edition.{plan_room}
use Rattle.model.specs.Limits.{max_tasks}
use Rattle.model.specs.Plan.{Plan, PlanAnswer, faulty, sound, between, read_plan}
use Rattle.model.specs.PlanBytes.{plan_bytes}
use Rattle.model.specs.Gap.{Group, one_task, task_set, known, gap_in, group_gap}
use Rattle.model.proofs.Plan.{both, between-inside}
use Rattle.model.proofs.Tests.{is_true, is_false, holds, fails}
use Rattle.theory.proofs.Sound.{PlanSound, read-sound}
use Rattle.theory.proofs.Groups.{set-of-one}
use Rattle.refusals.specs.Told.{Answer, Told}
use Rattle.refusals.proofs.Told.{told_by}
use Rattle.gap.specs.Groups.{set_of}
use Rattle.gap.specs.Promise.{Rewrites}
use Rattle.gap.proofs.Answers.{unknown-group, rewrites}

module _ (i : ℕ) where
  -- a task that no plan has is unknown
  no_plan : between 1 i max_tasks ≡ false → (P : Plan) → PlanSound P → known (one_task i) (length P.tasks) ≡ false
  no_plan e P s = is_false (known (one_task i) (length P.tasks)) (λ h.
      let ends = both (leb 1 i) (leb i (length P.tasks)) (is_true (known (one_task i) (length P.tasks)) h) in
      let high = leb-true i (length P.tasks) ends.1 in
      fails e (holds (between-inside 1 i max_tasks (leb-true 1 i ends.0) (omega (arith, s.tasks_fit)))))

  refused : between 1 i max_tasks ≡ false → (plan : List ℕ) (g lent : ℕ) → group_gap plan (one_task i) g lent ≡ group_gap plan (task_set 0) g lent
  unfolding group_gap
  refused e plan g lent = ap (with_room plan_room lent) (by_plan (read_plan plan) refl)
    where
      by_plan : (a : PlanAnswer) → read_plan plan ≡ a → with_plan a (λ P. gap_in P (one_task i) g) ≡ with_plan a (λ P. gap_in P (task_set 0) g)
      by_plan (faulty n) r = refl
      by_plan (sound P) r = unknown-group P (one_task i) g (no_plan e P (read-sound plan P r)) ∙ sym (unknown-group P (task_set 0) g refl)

pub as_set : (group : Group) (plan : List ℕ) (g lent : ℕ) → group_gap plan group g lent ≡ group_gap plan (task_set (set_of group)) g lent
as_set (one_task i) plan g lent = go (between 1 i max_tasks) refl
  where
    go : (b : Bool) → between 1 i max_tasks ≡ b → group_gap plan (one_task i) g lent ≡ group_gap plan (task_set (cond b (2 ^ (i - 1)) 0)) g lent
    go true e = sym (set-of-one plan i g lent (leb-true 1 i (both (leb 1 i) (leb i max_tasks) e).0))
    go false e = refused i e plan g lent
as_set (task_set set) plan g lent = refl

pub by_set : {group : Group} {plan : List ℕ} {set slots : ℕ} {before after : List ℕ} {r : Answer} → set ≡ set_of group →
    Told plan_bytes (group_gap plan (task_set set) slots (length before)) before after r → Rewrites plan group slots before after r
by_set {group = group} {plan = plan} {set = set} {slots = slots} {before = before} {after = after} {r = r} e t =
    rewrites plan group slots before after r
    (told_by (as_set group plan slots (length before) ∙ sym (ap (λ (n : ℕ). group_gap plan (task_set n) slots (length before)) e)) t)
