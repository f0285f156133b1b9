-- The call's answer by its tests.
-- Assumes nothing.
use mathlib.Core.Path.{◌≡◌, refl, sym, ap, subst, ◌∙◌}
use mathlib.Core.Bool.{Bool, true, false, cond}
use mathlib.Core.List.{List}
use Prim.Native.Nat.{ℕ, ◌≤◌, ◌<◌}
use native.Mathlib.Omega.{arith}
use borrow.Author.Tests.{lt-ltb, le-ltb}
use lib.ListN.{length}
use Rattle.model.specs.Bytes.{overwrite}
use Rattle.model.specs.Calls.{Writing, refuses, writes, with_plan}
use Rattle.model.specs.Discovery.{found}
use Rattle.model.specs.Limits.{max_states}
use Rattle.model.specs.Edition.{plan_room}
use Rattle.model.specs.Lists.{same_by}
use Rattle.model.specs.Refusals.{out_of_range, short_memory, too_many_pairs}
use Rattle.model.specs.Plan as model
use Rattle.model.specs.Plan.{PlanAnswer, sound, read_plan}
use Rattle.model.specs.PlanBytes.{plan_bytes, arcs_of}
use Rattle.model.proofs.Calls.{room-short, by_plan}
use Rattle.model.specs.Combine.{Pair, starts, same_pair, pairs_next, pairs, many_pairs, numbered_next, combined, same_task, combine_in, combine, AdmitsBoth}
use Rattle.theory.proofs.Combined.{combine-admits, combine-many}
use Rattle.plan.specs.declared.Fault.TheVariants.{OutOfRange}
use Rattle.plan.specs.declared.tasks.Plan.{Plan}
use Rattle.plan.specs.View.{list_of, arcs_in, plan_of}
use Rattle.plan.proofs.View.{tasks-size}
use Rattle.refusals.specs.declared.Refusal as refusal
use Rattle.refusals.specs.declared.Refusal.TheVariants.{TooManyPairs}
use Rattle.std.specs.Prelude as rust
use Rattle.std.specs.Prelude.{Ok, Err, None, Some}
use Rattle.refusals.specs.Told.{Answer, Told}
use Rattle.refusals.proofs.Told.{told_as, told-refusal, told-written, told-bytes, told-due}
use Rattle.combine.specs.declared.Automaton.{Automaton}
use Rattle.combine.specs.Pairs.{reached_pairs, IsProduct}
use Rattle.combine.specs.Promise.{Combines}

-- ---- the tests on two sound plans

module _ (p q : Plan) (before : List ℕ) where
  abbrev due : Writing model.Plan
  due = combine_in (plan_of p) (plan_of q)

  abbrev same : Bool
  same = same_by same_task (plan_of p).tasks (plan_of q).tasks

  by_tests : (a b : Bool) → same ≡ a → many_pairs (plan_of p) (plan_of q) ≡ b →
      due ≡ cond a (cond b (refuses too_many_pairs) (writes (combined (plan_of p) (plan_of q)))) (refuses out_of_range)
  by_tests a b e f = λ i. cond (e i) (cond (f i) (refuses too_many_pairs) (writes (combined (plan_of p) (plan_of q)))) (refuses out_of_range)

  pub other-tasks : same ≡ false → Told plan_bytes due before before (Err (refusal.TheVariants.Plan OutOfRange))
  other-tasks e = told-refusal plan_bytes due before (refusal.TheVariants.Plan OutOfRange) (by_tests false (many_pairs (plan_of p) (plan_of q)) e refl)

  counted : length (list_of p.tasks) ≡ p.tasks.count
  counted = tasks-size p.tasks

  -- the pairs of the tables are the plans'
  same-pairs : reached_pairs p.next q.next p.tasks.count ≡ pairs (plan_of p) (plan_of q)
  unfolding pairs
  same-pairs = ap (λ (n : ℕ). found same_pair (pairs_next (arcs_in p.next) (arcs_in q.next) n) starts max_states) (sym counted)

  module _ (tasks : same ≡ true) (o : rust.Option Automaton) (product : IsProduct p.next q.next p.tasks.count o) where
    pub many-pairs : o ≡ None → Told plan_bytes due before before (Err TooManyPairs)
    unfolding many_pairs
    many-pairs h =
        told-refusal plan_bytes due before TooManyPairs
        (by_tests true true tasks (lt-ltb max_states (length (pairs (plan_of p) (plan_of q))) (omega (arith, product.many h, ap length same-pairs))))

    module _ (r : Automaton) (is : o ≡ Some r) where
      -- the first plan with the product's table in place of its own
      abbrev replaced : Plan
      replaced = record { tasks = p.tasks; policy = p.policy; states = r.states; next = r.next; spare = p.spare }

      abbrev automaton : List Pair → ℕ → List model.Arc
      automaton us count = arcs_of (length us) count (numbered_next (arcs_in p.next) (arcs_in q.next) us)

      replaced-plan : plan_of replaced ≡ combined (plan_of p) (plan_of q)
      unfolding combined
      replaced-plan = λ i. record {
        tasks = list_of p.tasks;
        policy = p.policy;
        states = ((product.states r is).0 ∙ ap length same-pairs) i;
        arcs = (product.arcs r is ∙ (λ j. automaton (same-pairs j) (sym counted j))) i;
      }

      pub both_written : (after : List ℕ) (n : ℕ) → n ≡ length (plan_bytes (plan_of replaced)) → after ≡ overwrite before 0 (plan_bytes (plan_of replaced)) →
          Told plan_bytes due before after (Ok n)
      unfolding many_pairs
      both_written after n size bytes =
          told-written plan_bytes due (plan_of replaced) before after n
          (by_tests true false tasks
          (le-ltb max_states (length (pairs (plan_of p) (plan_of q))) (omega (arith, (product.states r is).1, (product.states r is).0, ap length same-pairs)))
          ∙ ap writes (sym replaced-plan))
          size bytes

-- ---- what is promised of the answer

pub combines : (first second before after : List ℕ) (r : Answer) → Told plan_bytes (combine first second (length before)) before after r →
    Combines first second before after r
combines first second before after r t = record {
  told = t;
  admitted = λ P Q p q n e.
      let w = told-bytes plan_bytes (combine first second (length before)) before after n (told_as e t) in
      subst (AdmitsBoth P Q) (sym w.bytes) (combine-admits first second (length before) P Q p q w.what w.is_due);
  many = λ P Q p q e.
      combine-many first second (length before) P Q p q
      (told-due plan_bytes (combine first second (length before)) before after TooManyPairs (told_as e t));
}

-- ---- the tests before them

module _ (first second : List ℕ) (lent : ℕ) where
  abbrev with_first : model.Plan → Writing model.Plan
  with_first P = with_plan (read_plan second) (λ Q. combine_in P Q)

  pub short : lent < plan_room → combine first second lent ≡ refuses short_memory
  unfolding combine
  short h = room-short plan_room lent (with_plan (read_plan first) with_first) h

  pub by_first : (a : PlanAnswer) → plan_room ≤ lent → read_plan first ≡ a → combine first second lent ≡ with_plan a with_first
  unfolding combine
  by_first a h e = by_plan plan_room lent with_first (read_plan first) a h e

  pub by_both : (P : model.Plan) (b : PlanAnswer) → plan_room ≤ lent → read_plan first ≡ sound P → read_plan second ≡ b →
      combine first second lent ≡ with_plan b (λ Q. combine_in P Q)
  by_both P b h e f = by_first (sound P) h e ∙ ap (λ (a : PlanAnswer). with_plan a (λ Q. combine_in P Q)) f
