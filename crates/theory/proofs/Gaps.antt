-- The plan with a gap: it is sound, and its bytes have the gap.
-- Assumes nothing.
use mathlib.Core.Path.{◌≡◌, refl, subst}
use mathlib.Core.Bool.{Bool, ◌&&◌}
use mathlib.Core.List.{List}
use mathlib.Core.Option.{some, none-ne-some, some-injective}
use Prim.Native.Nat.{ℕ, zero, suc, ◌-◌, ◌≤◌, ◌<◌}
use native.Mathlib.Omega.{arith}
use borrow.Author.Tests.{leb-true}
use lib.Dec.{leb}
use lib.ListN.{length}
use Rattle.model.specs.Calls.{writes}
use Rattle.model.specs.Edition.{long_reads, plan_room}
use Rattle.model.specs.Limits.{max_gap}
use Rattle.model.specs.Refusals.{bad_gap}
use Rattle.model.specs.Plan.{Plan, sound, between, read_plan}
use Rattle.model.specs.PlanBytes.{plan_bytes}
use Rattle.model.specs.Gap.{Group, in_group, known, releases, gap_next, gap_plan, gap_in, group_gap, HasGap}
use Rattle.model.proofs.Plan.{long_wide, both}
use Rattle.theory.proofs.Sound.{PlanSound, read-sound}
use Rattle.theory.proofs.Automata.{arcs_rise, arcs-sound}
use Rattle.theory.proofs.PlanRead.{plan-read-back}
use Rattle.theory.proofs.Writings.{taken, over}
use Rattle.theory.proofs.GapRuns.{gap_runs}

next-below : (g s n t : ℕ) → 1 ≤ g → s < g → gap_next g s n ≡ some t → t < g
next-below g s zero t h i e = omega (arith, i, some-injective (s - 1) t e)
next-below g zero (suc zero) t h i e = omega (arith, h, some-injective (g - 1) t e)
next-below g (suc s) (suc zero) t h i e = absurd (none-ne-some t e)
next-below g s (suc (suc n)) t h i e = absurd (none-ne-some t e)

module _ (P : Plan) (s : PlanSound P) (g : ℕ) (g1 : 1 ≤ g) (g16 : g ≤ max_gap) where
  gap_sound : (of : ℕ → Bool) → PlanSound (gap_plan P of g)
  unfolding gap_plan
  gap_sound of = record {
    some_task = s.some_task;
    tasks_fit = s.tasks_fit;
    task = s.task;
    some_policy = s.some_policy;
    policy_fits = s.policy_fits;
    some_state = g1;
    states_fit = g16;
    arc = arcs-sound g (length P.tasks) (λ s l. gap_next g s (releases of (length P.tasks) l)) (λ s l t h i e. next-below g s (releases of (length P.tasks) l) t g1 h e);
    rise = arcs_rise g (length P.tasks) (λ s l. gap_next g s (releases of (length P.tasks) l));
  }

  gap_has : (group : Group) → HasGap P group g (plan_bytes (gap_plan P (in_group group) g))
  unfolding gap_plan
  gap_has group = record {
    plan = gap_plan P (in_group group) g;
    form = record { taken = plan-read-back long_reads long_wide (gap_plan P (in_group group) g) (gap_sound (in_group group)); tasks = refl; policy = refl };
    runs = gap_runs (in_group group) (length P.tasks) g g1 (gap_plan P (in_group group) g) refl;
  }

-- ---- whatever the call writes has the gap

gap_in_lem : (P Q : Plan) → PlanSound P → (group : Group) (g : ℕ) → gap_in P group g ≡ writes Q → HasGap P group g (plan_bytes Q)
gap_in_lem P Q s group g e =
    let a = taken (between 1 g max_gap && known group (length P.tasks)) bad_gap (writes (gap_plan P (in_group group) g)) Q e in
    let two = both (between 1 g max_gap) (known group (length P.tasks)) a.0 in
    let ends = both (leb 1 g) (leb g max_gap) two.0 in
    let same : gap_plan P (in_group group) g ≡ Q = let k = a.1 in cc in
    subst (λ (R : Plan). HasGap P group g (plan_bytes R)) same (gap_has P s g (leb-true _ _ ends.0) (leb-true _ _ ends.1) group)

pub group_gap_has : (plan : List ℕ) (group : Group) (g lent : ℕ) (P Q : Plan) → read_plan plan ≡ sound P → group_gap plan group g lent ≡ writes Q → HasGap P group g (plan_bytes Q)
unfolding group_gap
group_gap_has plan group g lent P Q r e = gap_in_lem P Q (read-sound plan P r) group g (over plan_room lent (read_plan plan) (λ P. gap_in P group g) P Q r e)
