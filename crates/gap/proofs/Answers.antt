-- A gap call's answer by its tests.
-- Assumes nothing.
use mathlib.Core.Path.{◌≡◌, refl, sym, ap, subst, ◌∙◌}
use mathlib.Core.Bool.{Bool, true, false, cond, ◌&&◌, and-false}
use mathlib.Core.List.{List}
use Prim.Native.Nat.{ℕ, ◌^◌, ◌≤◌, ◌<◌}
use borrow.Author.Tests.{le-leb, lt-leb, lt-ltb, le-ltb}
use lib.Dec.{leb, ltb}
use lib.ListN.{length}
use Rattle.model.specs.Bytes.{overwrite}
use Rattle.model.specs.Calls.{Writing, refuses, writes, with_plan}
use Rattle.model.specs.Limits.{max_gap}
use Rattle.model.specs.Edition.{plan_room}
use Rattle.model.specs.Refusals.{bad_gap, short_memory}
use Rattle.model.specs.Plan as model
use Rattle.model.specs.Plan.{PlanAnswer, between, read_plan}
use Rattle.model.specs.PlanBytes.{plan_bytes}
use Rattle.model.specs.Gap.{Group, task_set, in_group, known, gap_plan, gap_in, group_gap, HasGap}
use Rattle.model.proofs.Calls.{room-short, by_plan}
use Rattle.model.proofs.Plan.{between-below, between-above, between-inside}
use Rattle.theory.proofs.Gaps.{group_gap_has}
use Rattle.theory.proofs.Groups.{same-tasks}
use Rattle.plan.specs.declared.tasks.Plan.{Plan}
use Rattle.plan.specs.View.{plan_of}
use Rattle.plan.proofs.View.{tasks-size}
use Rattle.refusals.specs.declared.Refusal.TheVariants.{BadGap}
use Rattle.std.specs.Prelude.{Ok, Err}
use Rattle.refusals.specs.Told.{Answer, Told}
use Rattle.refusals.proofs.Told.{told_as, told_by, told-refusal, told-written, told-bytes}
use Rattle.gap.specs.Promise.{Rewrites}

-- ---- the tests on group and gap

module _ (P : model.Plan) (group : Group) (g : ℕ) where
  pub bad_gap_lem : between 1 g max_gap ≡ false → gap_in P group g ≡ refuses bad_gap
  bad_gap_lem e = ap (λ (b : Bool). cond (b && known group (length P.tasks)) (writes (gap_plan P (in_group group) g)) (refuses bad_gap)) e

  pub unknown-group : known group (length P.tasks) ≡ false → gap_in P group g ≡ refuses bad_gap
  unknown-group e =
      ap (λ (b : Bool). cond (between 1 g max_gap && b) (writes (gap_plan P (in_group group) g)) (refuses bad_gap)) e
      ∙ ap (λ (b : Bool). cond b (writes (gap_plan P (in_group group) g)) (refuses bad_gap)) (and-false (between 1 g max_gap))

  gap_due : between 1 g max_gap ≡ true → known group (length P.tasks) ≡ true → gap_in P group g ≡ writes (gap_plan P (in_group group) g)
  gap_due e f = λ i. cond (e i && f i) (writes (gap_plan P (in_group group) g)) (refuses bad_gap)

module _ (p : Plan) (set slots : ℕ) (before : List ℕ) where
  abbrev due : Writing model.Plan
  due = gap_in (plan_of p) (task_set set) slots

  refusal : due ≡ refuses bad_gap → Told plan_bytes due before before (Err BadGap)
  refusal e = told-refusal plan_bytes due before BadGap e

  pub no_gap : slots < 1 → Told plan_bytes due before before (Err BadGap)
  no_gap h = refusal (bad_gap_lem (plan_of p) (task_set set) slots (between-below 1 slots max_gap h))

  pub long_gap : max_gap < slots → Told plan_bytes due before before (Err BadGap)
  long_gap h = refusal (bad_gap_lem (plan_of p) (task_set set) slots (between-above 1 slots max_gap h))

  -- whether the set has a task, and no other than the plan's
  known_by : (x y : Bool) → leb 1 set ≡ x → ltb set (2 ^ p.tasks.count) ≡ y → known (task_set set) (length (plan_of p).tasks) ≡ (x && y)
  known_by x y e f = (λ i. e i && ltb set (2 ^ tasks-size p.tasks i)) ∙ ap (λ (b : Bool). x && b) f

  pub no_task_lem : set < 1 → Told plan_bytes due before before (Err BadGap)
  no_task_lem h = refusal (unknown-group (plan_of p) (task_set set) slots (known_by false (ltb set (2 ^ p.tasks.count)) (lt-leb 1 set h) refl))

  module _ (member : 1 ≤ set) where
    pub foreign-task : 2 ^ p.tasks.count ≤ set → Told plan_bytes due before before (Err BadGap)
    foreign-task h = refusal (unknown-group (plan_of p) (task_set set) slots (known_by true false (le-leb 1 set member) (le-ltb set (2 ^ p.tasks.count) h)))

    pub gap_written : set < 2 ^ p.tasks.count → 1 ≤ slots → slots ≤ max_gap → (q : Plan) → plan_of q ≡ gap_plan (plan_of p) (in_group (task_set set)) slots → (after : List ℕ) (n : ℕ) →
        n ≡ length (plan_bytes (plan_of q)) → after ≡ overwrite before 0 (plan_bytes (plan_of q)) → Told plan_bytes due before after (Ok n)
    gap_written h low high q e after n size bytes =
        told-written plan_bytes due (plan_of q) before after n
        (gap_due (plan_of p) (task_set set) slots (between-inside 1 slots max_gap low high) (known_by true true (le-leb 1 set member) (lt-ltb set (2 ^ p.tasks.count) h)) ∙ ap writes (sym e))
        size bytes

-- ---- what is written has the gap, and goes by the tasks of the group

pub rewrites : (plan : List ℕ) (group : Group) (slots : ℕ) (before after : List ℕ) (r : Answer) → Told plan_bytes (group_gap plan group slots (length before)) before after r →
    Rewrites plan group slots before after r
rewrites plan group slots before after r t = record {
  told = t;
  named = λ other same. told_by (sym (same-tasks group other same plan slots (length before))) t;
  kept = λ P read n e.
      let w = told-bytes plan_bytes (group_gap plan group slots (length before)) before after n (told_as e t) in
      subst (HasGap P group slots) (sym w.bytes) (group_gap_has plan group slots (length before) P w.what read w.is_due);
}

-- ---- the tests before them

module _ (plan : List ℕ) (group : Group) (slots lent : ℕ) where
  pub short : lent < plan_room → group_gap plan group slots lent ≡ refuses short_memory
  unfolding group_gap
  short h = room-short plan_room lent (with_plan (read_plan plan) (λ P. gap_in P group slots)) h

  pub by_reading : (a : PlanAnswer) → plan_room ≤ lent → read_plan plan ≡ a → group_gap plan group slots lent ≡ with_plan a (λ P. gap_in P group slots)
  unfolding group_gap
  by_reading a h e = by_plan plan_room lent (λ P. gap_in P group slots) (read_plan plan) a h e
