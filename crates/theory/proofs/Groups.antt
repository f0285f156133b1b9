-- Groups of tasks that share a gap: which of them a plan has, and that a call goes by their tasks alone, so that a set of one is that task.
-- Assumes nothing.
use mathlib.Core.Path.{◌≡◌, refl, sym, ap, subst, ◌∙◌}
use mathlib.Core.Logic.{◌↔◌}
use mathlib.Core.Bool.{Bool, true, cond, ◌&&◌}
use mathlib.Core.List.{List}
use Prim.Native.Nat.{ℕ, zero, suc, ◌-◌, ◌^◌, ◌≤◌, ◌<◌}
use native.Mathlib.Decide.{dec_lt}
use native.Mathlib.Omega.{arith}
use borrow.Author.Tests.{leb-true, ltb-true, le-leb, lt-ltb, eqb-true, eq-eqb, ne_eqb}
use lib.Dec.{T, leb, ltb, eqb}
use lib.ListN.{length}
use Rattle.model.specs.Calls.{refuses, writes, with_room, with_plan}
use Rattle.model.specs.Edition.{plan_room}
use Rattle.model.specs.Limits.{max_gap}
use Rattle.model.specs.Lists.{bit}
use Rattle.model.specs.Masks.{bit_run}
use Rattle.model.specs.Refusals.{bad_gap}
use Rattle.model.specs.Plan.{Plan, between, read_plan}
use Rattle.model.specs.Gap.{Group, one_task, task_set, in_group, known, gap_plan, gap_in, group_gap, OfPlan, SameTasks}
use Rattle.model.proofs.Plan.{both, between-inside}
use Rattle.model.proofs.Tests.{is_true, holds, fails, same_test, same_decided, true-and}
use Rattle.theory.proofs.Bits.{zero_no_bit, bit_past, some-bit, bits_below, run-bit}

-- ---- "An empty set is 14, and so is one with a task the plan lacks."

-- a plan has a group just if it has some task, and the plan each of them
pub known-exact : (group : Group) (count : ℕ) → (known group count ≡ true) ↔ OfPlan (in_group group) count
known-exact (one_task i) count = (
  λ e. let ends = both (leb 1 i) (leb i count) e in
      record {
        member = (i, holds (eq-eqb i i refl));
        each = λ j h. let same = eqb-true i j (is_true (eqb i j) h) in (omega (arith, leb-true 1 i ends.0), omega (arith, leb-true i count ends.1));
      },
  λ o. let ends = o.each i (holds (eq-eqb i i refl)) in between-inside 1 i count ends.0 ends.1,
)
known-exact (task_set set) count = (
  λ e. let ends = both (leb 1 set) (ltb set (2 ^ count)) e in
      record {
        member = let k = some-bit set (leb-true 1 set ends.0) in (suc k.0, k.1);
        each = λ i h. below (ltb-true set (2 ^ count) ends.1) i h;
      },
  λ o. true-and (leb 1 set) (ltb set (2 ^ count)) (le-leb 1 set (above o.member.0 o.member.1 (dec_lt 0 set)))
      (lt-ltb set (2 ^ count) (bits_below count set (λ k h b. absurd (omega (arith, (o.each (suc k) b).1, h))))),
)
  where
    below : set < 2 ^ count → (i : ℕ) → T (in_group (task_set set) i) → (1 ≤ i) × (i ≤ count)
    below l zero h = absurd h
    below l (suc k) h = (omega arith, inside (dec_lt k count))
      where
        inside : Dec (k < count) → suc k ≤ count
        inside (yes p) = p
        inside (no p) = absurd (fails (bit_past count set k l (omega (arith, p))) h)

    above : (i : ℕ) → T (in_group (task_set set) i) → Dec (0 < set) → 1 ≤ set
    above zero h d = absurd h
    above (suc k) h (yes p) = p
    above (suc k) h (no p) = absurd (zero_no_bit (omega (arith, p)) k h)

-- ---- what a call answers goes by the tasks of the group

module _ (a b : Group) (same : SameTasks a b) where
  tests : in_group a ≡ in_group b
  tests = λ i j. same j i

  known_same : (count : ℕ) → known a count ≡ known b count
  known_same count =
      same_decided (known-exact a count)
      (subst (λ (of : ℕ → Bool). (known b count ≡ true) ↔ OfPlan of count) (sym tests) (known-exact b count))

  gap_same : (P : Plan) (g : ℕ) → gap_in P a g ≡ gap_in P b g
  gap_same P g = λ i. cond (between 1 g max_gap && known_same (length P.tasks) i) (writes (gap_plan P (tests i) g)) (refuses bad_gap)

  pub same-tasks : (plan : List ℕ) (g lent : ℕ) → group_gap plan a g lent ≡ group_gap plan b g lent
  unfolding group_gap
  same-tasks plan g lent = λ i. with_room plan_room lent (with_plan (read_plan plan) (λ P. gap_same P g i))

-- ---- "A set of one gives the arcs of A.1, byte for byte."

-- the one bit of a power of 2
power_bit : (k j : ℕ) → bit (2 ^ k) j ≡ eqb (suc k) (suc j)
power_bit k j =
    let run : 2 ^ k ≡ bit_run 1 k = omega arith in
    same_test (bit (2 ^ k) j) (eqb (suc k) (suc j))
    (λ h. let ends = (run-bit 1 k j).0 (subst (λ (m : ℕ). T (bit m j)) run h) in holds (eq-eqb (suc k) (suc j) (omega (arith, ends.0, ends.1))))
    (λ h. let e = eqb-true (suc k) (suc j) (is_true (eqb (suc k) (suc j)) h) in
    subst (λ (m : ℕ). T (bit m j)) (sym run) ((run-bit 1 k j).1 (omega arith, omega arith)))

pub alone : (i : ℕ) → 1 ≤ i → SameTasks (task_set (2 ^ (i - 1))) (one_task i)
alone zero h j = absurd (omega arith)
alone (suc k) h zero = sym (ne_eqb (suc k) zero (λ e. absurd (omega arith)))
alone (suc k) h (suc j) = ap (λ (n : ℕ). bit (2 ^ n) j) (omega arith) ∙ power_bit k j

pub set-of-one : (plan : List ℕ) (i g lent : ℕ) → 1 ≤ i → group_gap plan (task_set (2 ^ (i - 1))) g lent ≡ group_gap plan (one_task i) g lent
set-of-one plan i g lent h = same-tasks (task_set (2 ^ (i - 1))) (one_task i) (alone i h) plan g lent
