-- The combined plan: it is sound, and its bytes admit what both plans admit.
-- Assumes nothing.
use mathlib.Core.Path.{◌≡◌, refl, sym, subst, ◌∙◌}
use mathlib.Core.Bool.{Bool, true, false, cond}
use mathlib.Core.List.{List}
use mathlib.Core.Option.{Option}
use Prim.Native.Nat.{ℕ, ◌≤◌}
use native.Mathlib.Omega.{arith}
use lib.Dec.{ltb}
use lib.ListN.{length}
use Rattle.model.specs.Calls.{refuses, writes, with_plan, with_room}
use Rattle.model.specs.Edition.{long_reads, plan_room}
use Rattle.model.specs.Refusals.{out_of_range, too_many_pairs, short_memory}
use Rattle.model.specs.Lists.{same_by}
use Rattle.model.specs.Plan.{Plan, sound, read_plan}
use Rattle.model.specs.PlanBytes.{plan_bytes}
use Rattle.model.specs.Combine.{pairs, many_pairs, numbered_next, combined, combine_in, combine, same_task, AdmitsBoth, ManyReached}
use Rattle.model.proofs.Plan.{long_wide}
use Rattle.theory.proofs.Sound.{PlanSound, read-sound}
use Rattle.theory.proofs.Automata.{arcs_rise, arcs-sound}
use Rattle.theory.proofs.PlanRead.{plan-read-back}
use Rattle.theory.proofs.PlanForm.{plans_are_written}
use Rattle.theory.proofs.Writings.{taken, passed}
use Rattle.theory.proofs.Pairs.{combined-runs, combined-next, some_pair, few-pairs, many-reached}

module _ (P Q : Plan) (s : PlanSound P) (few : many_pairs P Q ≡ false) where
  abbrev to : ℕ → ℕ → Option ℕ
  to = numbered_next P.arcs Q.arcs (pairs P Q)

  pub combined-sound : PlanSound (combined P Q)
  unfolding combined
  combined-sound = record {
    some_task = s.some_task;
    tasks_fit = s.tasks_fit;
    task = s.task;
    some_policy = s.some_policy;
    policy_fits = s.policy_fits;
    some_state = some_pair P Q s;
    states_fit = few-pairs P Q s few;
    arc = arcs-sound (length (pairs P Q)) (length P.tasks) to (combined-next P Q s few);
    rise = arcs_rise (length (pairs P Q)) (length P.tasks) to;
  }

  admits_both : AdmitsBoth P Q (plan_bytes (combined P Q))
  unfolding combined
  admits_both = record {
    plan = combined P Q;
    form = record { taken = plan-read-back long_reads long_wide (combined P Q) combined-sound; tasks = refl; policy = refl };
    runs = combined-runs P Q s few;
  }

  -- it is no longer than the longest plan
  combined-fits : length (plan_bytes (combined P Q)) ≤ plan_room
  combined-fits =
      (plans_are_written long_reads long_wide (combined P Q) (record { bytes = plan_bytes (combined P Q); read = plan-read-back long_reads long_wide (combined P Q) combined-sound })).fits

-- ---- whatever the call writes admits what both admit, and fits

-- what is written is the combined plan, and there are not too many pairs
written-combined : (P Q R : Plan) → combine_in P Q ≡ writes R → (many_pairs P Q ≡ false) × (combined P Q ≡ R)
written-combined P Q R e =
    let a = taken (same_by same_task P.tasks Q.tasks) out_of_range (cond (many_pairs P Q) (refuses too_many_pairs) (writes (combined P Q))) R e in
    let b = passed (many_pairs P Q) too_many_pairs (writes (combined P Q)) R a.1 in
    (b.0, (let k = b.1 in cc))

module _ (first second : List ℕ) (lent : ℕ) (P Q : Plan) (p : read_plan first ≡ sound P) (q : read_plan second ≡ sound Q) where
  -- the call over two sound plans
  due_both : combine first second lent ≡ with_room plan_room lent (combine_in P Q)
  unfolding combine
  due_both = λ i. with_room plan_room lent (with_plan (p i) (λ P. with_plan (q i) (combine_in P)))

  module _ (R : Plan) (e : combine first second lent ≡ writes R) where
    due-written : (many_pairs P Q ≡ false) × (combined P Q ≡ R)
    due-written = written-combined P Q R (passed (ltb lent plan_room) short_memory (combine_in P Q) R (sym due_both ∙ e)).1

    pub combine-admits : AdmitsBoth P Q (plan_bytes R)
    combine-admits =
        subst (λ (S : Plan). AdmitsBoth P Q (plan_bytes S)) due-written.1 (admits_both P Q (read-sound first P p) due-written.0)

    pub combine-fits : length (plan_bytes R) ≤ plan_room
    combine-fits = subst (λ (S : Plan). length (plan_bytes S) ≤ plan_room) due-written.1 (combined-fits P Q (read-sound first P p) due-written.0)

  -- ---- where it gives 15 there are too many pairs

  pub combine-many : combine first second lent ≡ refuses too_many_pairs → ManyReached P Q
  combine-many e =
      many-reached P Q (read-sound first P p)
      (fifteen (ltb lent plan_room) (same_by same_task P.tasks Q.tasks) (many_pairs P Q) (sym due_both ∙ e))
    where
      fifteen : (a b c : Bool) →
          cond a (refuses short_memory) (cond b (cond c (refuses too_many_pairs) (writes (combined P Q))) (refuses out_of_range)) ≡ refuses too_many_pairs → c ≡ true
      fifteen true b c e = let z : ◌≡◌ {A = ℕ} short_memory too_many_pairs = cc in absurd (omega arith)
      fifteen false false c e = let z : ◌≡◌ {A = ℕ} out_of_range too_many_pairs = cc in absurd (omega arith)
      fifteen false true true e = refl
      fifteen false true false e = let z : ◌≡◌ {A = ℕ} 0 1 = cc in absurd (omega arith)
