-- The automaton of a gap by the tests of the code, and the plan with it.
-- Assumes nothing.
use mathlib.Core.Path.{◌≡◌, refl, sym, ap, ◌∙◌}
use mathlib.Core.Bool.{Bool, true, false, cond, ◌&&◌, and-false}
use mathlib.Core.List.{List, map}
use mathlib.Core.Option.{Option, none, some}
use Prim.Native.Nat.{ℕ, suc, ◌+◌, ◌-◌, ◌*◌, ◌^◌, ◌≤◌, ◌<◌}
use native.Mathlib.Nat.{lt_of_le_of_lt}
use native.Mathlib.Omega.{arith}
use borrow.Author.Tests.{lt-ltb, le-ltb}
use lib.Bits.{bit_and, and_le_l}
use lib.Count as count
use lib.Dec.{ltb}
use lib.ListN.{length, get_or}
use Rattle.model.specs.Limits.{max_states, max_gap}
use Rattle.model.specs.Lists.{bit, one, up_from}
use Rattle.model.specs.PlanBytes.{arcs_of}
use Rattle.model.specs.Gap.{task_set, in_group, releases, gap_next, gap_plan}
use Rattle.model.proofs.Lists.{get_or-table}
use Rattle.model.proofs.Runs.{ones-counted}
use Rattle.theory.proofs.Bits.{bit_past, bit-and, ones-sum}
use Rattle.theory.proofs.Sums.{sum_same, sum_past}
use Rattle.plan.specs.declared.tasks.Plan.{Plan}
use Rattle.plan.specs.View.{list_of, label_count, pair_count, arcs_in, next_of, entry_of, plan_of}
use Rattle.plan.proofs.View.{tasks-size, pair_state, pair_label}
use Rattle.plan.proofs.Arcs.{table-arcs}
use Rattle.gap.specs.declared.Gap.{Gap}
use Rattle.gap.specs.Automaton.{Fits, leads, pair_entry}

-- ---- the releases of a label

-- they are the ones of set and label
pub releases-counted : (set l : ℕ) → set < 256 → count.ones (bit_and set l) ≡ releases (in_group (task_set set)) 8 l
unfolding releases
releases-counted set l h =
    ones-counted 8 (bit_and set l) (lt_of_le_of_lt (and_le_l set l) h) ∙ ones-sum 8 (bit_and set l) ∙ sum_same _ _ 8 (λ k _. ap one (bit-and set l k))

-- a label of so many tasks releases no other
releases_past : (of : ℕ → Bool) (count n l : ℕ) → l < 2 ^ count → releases of (count + n) l ≡ releases of count l
unfolding releases
releases_past of count n l h =
    sum_past (λ k. one (of (suc k) && bit l k)) count n
    (λ k p. ap (λ (b : Bool). one (of (suc k) && b)) (bit_past count l k h p) ∙ ap one (and-false (of (suc k))))

-- ---- the next state, by state and releases

module _ (g s n : ℕ) where
  pub stays : n ≡ 0 → s ≡ 0 → 1 ≡ entry_of (gap_next g s n)
  stays e f = sym (λ i. entry_of (gap_next g (f i) (e i)))

  -- the set stays closed for one slot fewer
  pub waits : n ≡ 0 → 0 < s → s ≡ entry_of (gap_next g s n)
  waits e h =
      let fewer : s ≡ suc (s - 1) = omega arith in
      fewer ∙ sym (ap (λ (k : ℕ). entry_of (gap_next g s k)) e)

  pub crowded : 1 < n → 0 ≡ entry_of (gap_next g s n)
  crowded h =
      let two : n ≡ suc (suc (n - 2)) = omega arith in
      sym (ap (λ (k : ℕ). entry_of (gap_next g s k)) two)

  pub opened : n ≡ 1 → s ≡ 0 → 1 ≤ g → g ≡ entry_of (gap_next g s n)
  opened e f h =
      let whole : g ≡ suc (g - 1) = omega arith in
      whole ∙ sym (λ i. entry_of (gap_next g (f i) (e i)))

  pub closed : n ≡ 1 → 0 < s → 0 ≡ entry_of (gap_next g s n)
  closed e h =
      let some : s ≡ suc (s - 1) = omega arith in
      sym (λ i. entry_of (gap_next g (some i) (e i)))

-- ---- where a label leads from a state

module _ (a : Gap) (s l : ℕ) where
  led : (x y : Bool) → ltb s a.slots ≡ x → ltb l (2 ^ a.tasks.count) ≡ y →
      leads a s l ≡ cond (x && y) (gap_next a.slots s (releases (in_group (task_set a.set)) a.tasks.count l)) none
  led x y e f = λ i. cond (e i && f i) (gap_next a.slots s (releases (in_group (task_set a.set)) a.tasks.count l)) none

  pub no_state : a.slots ≤ s → 0 ≡ entry_of (leads a s l)
  no_state h = sym (ap entry_of (led false (ltb l (2 ^ a.tasks.count)) (le-ltb s a.slots h) refl))

  module _ (state : s < a.slots) where
    pub no_label : 2 ^ a.tasks.count ≤ l → 0 ≡ entry_of (leads a s l)
    no_label h = sym (ap entry_of (led true false (lt-ltb s a.slots state) (le-ltb l (2 ^ a.tasks.count) h)))

    pub by_releases : Fits a → l < 2 ^ a.tasks.count → entry_of (gap_next a.slots s (releases (in_group (task_set a.set)) 8 l)) ≡ entry_of (leads a s l)
    by_releases fits h =
        let of = in_group (task_set a.set) in
        let eight : 8 ≡ a.tasks.count + (8 - a.tasks.count) = omega (arith, a.tasks.fits) in
        ap (λ (k : ℕ). entry_of (gap_next a.slots s k)) (ap (λ (k : ℕ). releases of k l) eight ∙ releases_past of a.tasks.count (8 - a.tasks.count) l h)
        ∙ sym (ap entry_of (led true true (lt-ltb s a.slots state) (lt-ltb l (2 ^ a.tasks.count) h)))

-- ---- the table

next-entry : (o : Option ℕ) → next_of (entry_of o) ≡ o
next-entry none = refl
next-entry (some t) = refl

-- an entry of the table is the one of its state and label
at_pair : (a : Gap) (s l : ℕ) → s < max_states → l < label_count → get_or (map (pair_entry a) (up_from 0 pair_count)) (s * label_count + l) 0 ≡ entry_of (leads a s l)
at_pair a s l h k = get_or-table (pair_entry a) pair_count (s * label_count + l) 0 (omega arith) ∙ (λ i. entry_of (leads a (pair_state s l k i) (pair_label s l k i)))

-- its arcs are the automaton's
gap_arcs : (a : Gap) → Fits a → (table : List ℕ) → table ≡ map (pair_entry a) (up_from 0 pair_count) →
    arcs_in table ≡ arcs_of a.slots a.tasks.count (λ s l. gap_next a.slots s (releases (in_group (task_set a.set)) a.tasks.count l))
gap_arcs a f table e =
    table-arcs table a.slots a.tasks.count (λ s l. gap_next a.slots s (releases (in_group (task_set a.set)) a.tasks.count l)) f.longest a.tasks.fits
    (λ s l h k. ap (λ (t : List ℕ). next_of (get_or t (s * label_count + l) 0)) e ∙ ap next_of (at_pair a s l h k) ∙ next-entry (leads a s l))

-- ---- the plan

module _ (p : Plan) (set slots : ℕ) (table : List ℕ) (e : table ≡ map (pair_entry (record { tasks = p.tasks; set = set; slots = slots })) (up_from 0 pair_count)) where
  -- the plan with the table in place of its own
  abbrev pub replaced : Plan
  replaced = record { tasks = p.tasks; policy = p.policy; states = slots; next = table; spare = p.spare }

  pub replaced-plan : 1 ≤ slots → slots ≤ max_gap → plan_of replaced ≡ gap_plan (plan_of p) (in_group (task_set set)) slots
  unfolding gap_plan
  replaced-plan s1 s2 = λ i. record { tasks = list_of p.tasks; policy = p.policy; states = slots; arcs = same i }
    where
      same : arcs_in table ≡ arcs_of slots (length (list_of p.tasks)) (λ s l. gap_next slots s (releases (in_group (task_set set)) (length (list_of p.tasks)) l))
      same =
          gap_arcs (record { tasks = p.tasks; set = set; slots = slots }) (record { shortest = s1; longest = s2 }) table e
          ∙ ap (λ (n : ℕ). arcs_of slots n (λ s l. gap_next slots s (releases (in_group (task_set set)) n l))) (sym (tasks-size p.tasks))
