-- What a plan that the reader takes is: its tasks, policy, states and arcs are in range, and the arcs rise.
-- Assumes nothing.
use mathlib.Core.Path.{◌≡◌, refl, sym, subst}
use mathlib.Core.Bool.{Bool, true, false, cond, not, ◌&&◌, ◌||◌, false≢true}
use mathlib.Core.Logic.{◌⊎◌, inl, inr, ⊎_elim}
use mathlib.Core.Option.{some, none-ne-some, some-injective}
use mathlib.Core.List.Memᴰ
use mathlib.Core.List.{List, [], ◌∷◌, ◌++◌, Memᴰ}
use Prim.Native.Nat.{ℕ, zero, suc, ◌+◌, ◌-◌, ◌^◌, ◌<◌, ◌≤◌}
use native.Mathlib.Nat.{lt_of_lt_of_le}
use native.Mathlib.Omega.{arith}
use lib.Dec.{leb, ltb, eqb}
use lib.ListN.{length, get_or, drop, length-append}
use lib.Pow.{pow_mono}
use borrow.Author.Tests.{leb-true, ltb-true, eqb-true}
use Rattle.model.specs.Edition.{Edition, long_reads}
use Rattle.model.specs.Limits.{max_tasks, max_states}
use Rattle.model.specs.Plan.{Task, Arc, Plan, PlanAnswer, faulty, sound, Reading, nothing_read, is_arc, next_in, width, may_follow, task_in_range, arc_in_range, in_range, pair_below, rising, first_fault, fault, with_lock, lock_at, after, last_operand, refused_or, at_end, read_commands, read_from, read_plan_in, IsSoundIn, IsSound}
use Rattle.model.specs.Bytes.{number}
use Rattle.model.specs.Refusals.{bytes_end}
use Rattle.model.specs.Cases.{plan_a}
use Rattle.model.proofs.Plan.{both, Passes, fault-none, arc_ranged, task_follows, by_command, lock_at-length, lock_at-each}

-- a task in range: 1 ≤ C ≤ D, within the limits of the edition, and locked only where the edition has locks
pub record TaskSoundIn (e : Edition) (t : Task) : Type 0 where
  pub some_work : 1 ≤ t.work
  pub work_fits : t.work ≤ t.window
  pub window_fits : t.window ≤ e.window
  pub some_value : 1 ≤ t.value
  pub value_fits : t.value ≤ e.value
  pub lock_fits : t.locked ≡ true → e.locks ≡ true

abbrev pub TaskSound : Task → Type 0
TaskSound t = TaskSoundIn long_reads t

-- "S, T below M, L below 2 to the number of tasks"
pub record ArcSound (count states : ℕ) (a : Arc) : Type 0 where
  pub from_below : a.from < states
  pub label_below : a.label < 2 ^ count
  pub to_below : a.to < states

-- the pair of one arc is below the other's
abbrev pub Before : Arc → Arc → Type 0
Before a b = (a.from < b.from) ⊎ ((a.from ≡ b.from) × (a.label < b.label))

-- "pairs (S, L) strictly rising"
abbrev pub ArcsRise : List Arc → Type 0
ArcsRise [] = Unit {0}
ArcsRise (a ∷ []) = Unit {0}
ArcsRise (a ∷ b ∷ as') = Before a b × ArcsRise (b ∷ as')

-- what the reader takes
pub record PlanSoundIn (e : Edition) (P : Plan) : Type 0 where
  pub some_task : 1 ≤ length P.tasks
  pub tasks_fit : length P.tasks ≤ max_tasks
  pub task : (t : Task) → Memᴰ t P.tasks → TaskSoundIn e t
  pub some_policy : 1 ≤ P.policy
  pub policy_fits : P.policy ≤ 4
  pub some_state : 1 ≤ P.states
  pub states_fit : P.states ≤ max_states
  pub arc : (a : Arc) → Memᴰ a P.arcs → ArcSound (length P.tasks) P.states a
  pub rise : ArcsRise P.arcs

abbrev pub PlanSound : Plan → Type 0
PlanSound P = PlanSoundIn long_reads P

-- ---- while it is read

-- what holds of the commands read so far
pub record Held (e : Edition) (r : Reading) : Type 0 where
  pub tasks_fit : length r.tasks ≤ max_tasks
  pub task : (t : Task) → Memᴰ t r.tasks → TaskSoundIn e t
  pub policy_fits : r.policy ≤ 4
  pub tasked : 1 ≤ r.policy → 1 ≤ length r.tasks
  pub states_fit : r.states ≤ max_states
  pub policied : 1 ≤ r.states → 1 ≤ r.policy
  pub arc : (a : Arc) → Memᴰ a r.arcs → ArcSound (length r.tasks) r.states a
  pub rise : ArcsRise r.arcs
  pub stated : r.ended ≡ true → 1 ≤ r.states

-- at the start
pub held-nothing : (e : Edition) → Held e nothing_read
held-nothing e = record {
  tasks_fit = omega arith;
  task = λ t m. absurd (Memᴰ.not-nil m);
  policy_fits = omega arith;
  tasked = omega arith;
  states_fit = omega arith;
  policied = omega arith;
  arc = λ a m. absurd (Memᴰ.not-nil m);
  rise = tt;
  stated = λ k. absurd (false≢true k);
}

-- the operands of a task in range
task-ranged : (e : Edition) (c d v : ℕ) → task_in_range e c d v ≡ true → TaskSoundIn e (record { work = c; window = d; value = v; locked = false })
unfolding task_in_range
task-ranged e c d v h =
    let three = both (leb 1 c && leb c d && leb d e.window) (leb 1 v && leb v e.value) h in
    let two = both (leb 1 c && leb c d) (leb d e.window) three.0 in
    let one = both (leb 1 c) (leb c d) two.0 in
    let value = both (leb 1 v) (leb v e.value) three.1 in
    record {
      some_work = leb-true 1 c one.0;
      work_fits = leb-true c d one.1;
      window_fits = leb-true d e.window two.1;
      some_value = leb-true 1 v value.0;
      value_fits = leb-true v e.value value.1;
      lock_fits = λ k. absurd (false≢true k);
    }

-- a task in range may be locked where the edition has locks
task-locked : (e : Edition) → e.locks ≡ true → (t : Task) → TaskSoundIn e t → TaskSoundIn e (with_lock true t)
task-locked e has t s = record {
  some_work = s.some_work;
  work_fits = s.work_fits;
  window_fits = s.window_fits;
  some_value = s.some_value;
  value_fits = s.value_fits;
  lock_fits = λ k. has;
}

-- the test of pairs as a fact
before_of : (a : Arc) (s l t : ℕ) → pair_below a s l ≡ true → Before a (record { from = s; label = l; to = t })
before_of a s l t h = go (ltb a.from s) refl h
  where
    go : (b : Bool) → ltb a.from s ≡ b → (b || (eqb a.from s && ltb a.label l)) ≡ true → Before a (record { from = s; label = l; to = t })
    go true e k = inl (ltb-true _ _ e)
    go false e k = let two = both _ _ k in inr (eqb-true _ _ two.0, ltb-true _ _ two.1)

-- an arc above the last one keeps them rising
rise_snoc : (as' : List Arc) (s l t : ℕ) → ArcsRise as' → rising as' s l ≡ true → ArcsRise (as' ++ (record { from = s; label = l; to = t } ∷ []))
rise_snoc [] s l t r h = tt
rise_snoc (a ∷ []) s l t r h = (before_of a s l t h, tt)
rise_snoc (a ∷ b ∷ as') s l t r h = (r.0, rise_snoc (b ∷ as') s l t r.1 h)

module _ {ℓ κ} {A : Type ℓ} {B : A → Type κ} where
  -- one element more
  all_snoc : (l : List A) (x : A) → ((a : A) → Memᴰ a l → B a) → B x → (a : A) → Memᴰ a (l ++ (x ∷ [])) → B a
  all_snoc l x h b a m = ⊎_elim (h a) (λ k. subst B (sym (Memᴰ.eq_of_singleton k)) b) (Memᴰ.append_cases l m)

-- a task more leaves an arc in range
more-tasks : {m n states : ℕ} {a : Arc} → m ≤ n → ArcSound m states a → ArcSound n states a
more-tasks h s = record { from_below = s.from_below; label_below = lt_of_lt_of_le s.label_below (pow_mono h); to_below = s.to_below }

-- a number that is not 0
nonzero : (n : ℕ) → not (eqb n 0) ≡ true → 1 ≤ n
nonzero zero h = absurd (false≢true h)
nonzero (suc n) h = omega arith

module _ (e : Edition) (r : Reading) (held : Held e r) (x y z : ℕ) where
  -- the command c, without a fault, keeps what is held
  abbrev Keeps : ℕ → Type 0
  Keeps c = Passes e r c x y z → Held e (after r c x y z)

  -- a task
  keeps-task : Keeps 1
  unfolding after may_follow in_range
  keeps-task p =
      let t : Task = record { work = x; window = y; value = z; locked = false } in
      let more : length (r.tasks ++ (t ∷ [])) ≡ length r.tasks + 1 = length-append r.tasks (t ∷ []) in
      record {
        tasks_fit = omega (arith, task_follows r 1 refl p.follows);
        task = all_snoc r.tasks t held.task (task-ranged e x y z p.ranged);
        policy_fits = held.policy_fits;
        tasked = λ h. omega arith;
        states_fit = held.states_fit;
        policied = held.policied;
        arc = λ a m. more-tasks (omega arith) (held.arc a m);
        rise = held.rise;
        stated = λ k. absurd (false≢true k);
      }

  -- the policy
  keeps-policy : Keeps 2
  unfolding after may_follow in_range
  keeps-policy p =
      let two = both (eqb r.policy 0) (not (eqb (length r.tasks) 0)) p.follows in
      let range = both (leb 1 x) (leb x 4) p.ranged in
      record {
        tasks_fit = held.tasks_fit;
        task = held.task;
        policy_fits = leb-true x 4 range.1;
        tasked = λ h. nonzero (length r.tasks) two.1;
        states_fit = held.states_fit;
        policied = λ h. leb-true 1 x range.0;
        arc = held.arc;
        rise = held.rise;
        stated = λ k. absurd (false≢true k);
      }

  -- the number of states
  keeps-states : Keeps 3
  unfolding after may_follow in_range
  keeps-states p =
      let two = both (not (eqb r.policy 0)) (eqb r.states 0) p.follows in
      let range = both (leb 1 x) (leb x max_states) p.ranged in
      record {
        tasks_fit = held.tasks_fit;
        task = held.task;
        policy_fits = held.policy_fits;
        tasked = held.tasked;
        states_fit = leb-true x max_states range.1;
        policied = λ h. nonzero r.policy two.0;
        arc = λ a m. absurd (omega (arith, (held.arc a m).from_below, eqb-true r.states 0 two.1));
        rise = held.rise;
        stated = λ k. absurd (false≢true k);
      }

  -- an arc
  keeps_arc : Keeps 4
  unfolding after
  keeps_arc p =
      let range = arc_ranged e r 4 x y z refl p.ranged in
      record {
        tasks_fit = held.tasks_fit;
        task = held.task;
        policy_fits = held.policy_fits;
        tasked = held.tasked;
        states_fit = held.states_fit;
        policied = held.policied;
        arc = all_snoc r.arcs (record { from = x; label = y; to = z }) held.arc (record { from_below = range.0; label_below = range.1; to_below = range.2 });
        rise = rise_snoc r.arcs x y z held.rise p.above;
        stated = λ k. absurd (false≢true k);
      }

  -- the end
  keeps-end : Keeps 5
  unfolding after may_follow
  keeps-end p = record {
    tasks_fit = held.tasks_fit;
    task = held.task;
    policy_fits = held.policy_fits;
    tasked = held.tasked;
    states_fit = held.states_fit;
    policied = held.policied;
    arc = held.arc;
    rise = held.rise;
    stated = λ k. nonzero r.states p.follows;
  }

  -- a lock
  keeps-lock : e.locks ≡ true → Keeps 9
  unfolding after
  keeps-lock has p =
      let same : length (lock_at r.tasks (x - 1)) ≡ length r.tasks = lock_at-length r.tasks (x - 1) in
      record {
        tasks_fit = omega (arith, held.tasks_fit);
        task = lock_at-each (task-locked e has) r.tasks (x - 1) held.task;
        policy_fits = held.policy_fits;
        tasked = λ h. omega (arith, held.tasked h);
        states_fit = held.states_fit;
        policied = held.policied;
        arc = λ a m. more-tasks (omega arith) (held.arc a m);
        rise = held.rise;
        stated = λ k. absurd (false≢true k);
      }

  -- a command without a fault keeps what is held
  pub held_after : (c : ℕ) → Passes e r c x y z → Held e (after r c x y z)
  held_after c p = by_command Keeps e c p.known keeps-task keeps-policy keeps-states keeps_arc keeps-end keeps-lock p

-- where the commands end, the plan is sound
sound-end : (e : Edition) (r : Reading) (P : Plan) → Held e r → at_end r ≡ sound P → PlanSoundIn e P
sound-end e r P held h = go r.ended refl h
  where
    whole : r.ended ≡ true → PlanSoundIn e (record { tasks = r.tasks; policy = r.policy; states = r.states; arcs = r.arcs })
    whole k = record {
      some_task = held.tasked (held.policied (held.stated k));
      tasks_fit = held.tasks_fit;
      task = held.task;
      some_policy = held.policied (held.stated k);
      policy_fits = held.policy_fits;
      some_state = held.stated k;
      states_fit = held.states_fit;
      arc = held.arc;
      rise = held.rise;
    }

    go : (b : Bool) → r.ended ≡ b →
        cond b (sound (record { tasks = r.tasks; policy = r.policy; states = r.states; arcs = r.arcs })) (faulty bytes_end) ≡ sound P →
        PlanSoundIn e P
    go true is k = subst (PlanSoundIn e) (cc) (whole is)
    go false is k = let z : ◌≡◌ {A = ℕ} 0 1 = cc in absurd (omega arith)

-- from what is held, what is read on is sound
module _ (e : Edition) (P : Plan) where
  sound-read : (n : ℕ) (bs : List ℕ) (r : Reading) → Held e r → read_commands e n bs r ≡ sound P → PlanSoundIn e P
  sound-read zero bs r held h = let z : ◌≡◌ {A = ℕ} 0 1 = cc in absurd (omega arith)
  sound-read (suc n) [] r held h = sound-end e r P held h
  sound-read (suc n) (c ∷ bs) r held h =
      go (fault e r (length (c ∷ bs)) c x y z) refl h
      (λ p. sound-read n (drop (width e c) (c ∷ bs)) (after r c x y z) (held_after e r held x y z c p))
    where
      x : ℕ
      x = get_or bs 0 0

      y : ℕ
      y = get_or bs 1 0

      z : ℕ
      z = last_operand e c bs

      rest : PlanAnswer
      rest = read_commands e n (drop (width e c) (c ∷ bs)) (after r c x y z)

      go : (f : ℕ) → fault e r (length (c ∷ bs)) c x y z ≡ f → refused_or f rest ≡ sound P →
          (Passes e r c x y z → rest ≡ sound P → PlanSoundIn e P) → PlanSoundIn e P
      go zero is k later = later (fault-none e r (length (c ∷ bs)) c x y z is).0 k
      go (suc f) is k later = let z : ◌≡◌ {A = ℕ} 0 1 = cc in absurd (omega arith)

module _ {e : Edition} where
  -- a plan that the reader takes is sound
  pub read-sound : (bs : List ℕ) (P : Plan) → read_plan_in e bs ≡ sound P → PlanSoundIn e P
  unfolding read_plan_in read_from
  read-sound bs P h = sound-read e P (suc (length bs)) bs nothing_read (held-nothing e) h

  -- the same, from the record of the bytes
  pub sound-plan : (P : Plan) → IsSoundIn e P → PlanSoundIn e P
  sound-plan P s = read-sound s.bytes P s.read

-- ---- what the rest uses

-- a label that leads on is an arc's
pub next_in_arc : (as' : List Arc) (s l t : ℕ) → next_in as' s l ≡ some t →
    (a : Arc) × Memᴰ a as' × (a.from ≡ s) × (a.label ≡ l) × (a.to ≡ t)
next_in_arc [] s l t h = absurd (none-ne-some t h)
next_in_arc (a ∷ as') s l t h = go (is_arc s l a) refl h (next_in_arc as' s l t)
  where
    Found : List Arc → Type 0
    Found bs = (b : Arc) × Memᴰ b bs × (b.from ≡ s) × (b.label ≡ l) × (b.to ≡ t)

    go : (b : Bool) → is_arc s l a ≡ b → cond b (some a.to) (next_in as' s l) ≡ some t →
        (next_in as' s l ≡ some t → Found as') → Found (a ∷ as')
    go true e k later =
        let two = both (eqb a.from s) (eqb a.label l) e in
        (a, Memᴰ.head refl, eqb-true _ _ two.0, eqb-true _ _ two.1, some-injective _ _ k)
    go false e k later = let r = later k in (r.0, Memᴰ.tail r.1, r.2, r.3, r.4)

-- an admitted label is below 2 to the number of tasks
pub label-below : (P : Plan) → PlanSound P → (s l t : ℕ) → next_in P.arcs s l ≡ some t → l < 2 ^ length P.tasks
label-below P sd s l t h =
    let r = next_in_arc P.arcs s l t h in
    omega (arith, (sd.arc r.0 r.1).label_below, r.3)

-- there are such plans: the bytes of A are read
pub plan_a-sound : (P : Plan) × IsSound P
unfolding number read_plan_in read_from first_fault fault after width last_operand may_follow in_range task_in_range arc_in_range
plan_a-sound = (
  record {
    tasks = record { work = 1; window = 1; value = 1; locked = false } ∷ [];
    policy = 1;
    states = 1;
    arcs = record { from = 0; label = 0; to = 0 } ∷ record { from = 0; label = 1; to = 0 } ∷ [];
  },
  record { bytes = plan_a; read = refl },
)
