-- What each command that may be read does to the reading.
-- Assumes nothing.
use mathlib.Core.Path.{◌≡◌, refl, sym, ap, ◌∙◌, subst}
use mathlib.Core.Bool.{true, false, not, false≢true}
use mathlib.Core.List.{List, [], ◌∷◌, ◌++◌}
use Rattle.std.specs.Prelude as rust
use Rattle.std.specs.Prelude.{None, Some, Ok, Err, MatchResult}
use Prim.Native.Nat.{ℕ, suc, ◌+◌, ◌-◌, ◌*◌, ◌^◌, ◌≤◌, ◌<◌}
use native.Mathlib.Nat.{lt_of_lt_of_le}
use native.Mathlib.Numerals.{add-one}
use native.Mathlib.Omega.{arith}
use borrow.Author.Tests.{le-ltb, ltb-true, leb-true, not-true}
use lib.Dec.{ltb, leb}
use lib.ListN.{length, set, drop}
use Rattle.model.specs.Edition.{Edition}
use Rattle.model.specs.Limits.{max_tasks, max_states}
use Rattle.model.specs.Plan as model
use Rattle.model.specs.Plan.{Arc, lock_at, any_locked, is_zero, between, may_follow, in_range}
use Rattle.model.proofs.Plan.{Passes, both, fault-none, task_follows, arc_ranged, lock-ranged}
use Rattle.plan.specs.declared.Command.{Command}
use Rattle.plan.specs.declared.Reading.{Reading}
use Rattle.plan.specs.declared.tasks.TaskList.{TaskList}
use Rattle.plan.specs.View.{list_of, command_number, given_in, reading_of, arcs_in, label_count, pair_count, Bare, Within, Readable, Reads}
use Rattle.plan.proofs.View.{tasks-size, locks-task, locks-lock, lock-rises, label-low, least-rises, arc_of, arcs-add, holds-add, pair_state, pair_label}

pub states-few : (r : Reading) → Within r → given_in r.states ≤ max_states
states-few r w = go r.states refl
  where
    go : (o : rust.Option ℕ) → r.states ≡ o → given_in o ≤ max_states
    go None is = omega arith
    go (Some m) is = (w.states m is).1

some_given : {A : Type 0} (a : A) → ◌≡◌ {A = rust.Option A} (Some a) None → ⊥
some_given a q = let z : ◌≡◌ {A = ℕ} 0 1 = cc in omega arith

some-same : (x m : ℕ) → ◌≡◌ {A = rust.Option ℕ} (Some x) (Some m) → x ≡ m
some-same x m q = ap given_in q

-- what is not 0 has been given
given : (o : rust.Option ℕ) → is_zero (given_in o) ≡ false → o ≡ None → ⊥
given None e q = false≢true (sym e)
given (Some p) e q = some_given p q

-- the states follow a policy, and the end follows the states
states-follow : (r : model.Reading) (c : ℕ) → c ≡ 3 → may_follow r c ≡ true → is_zero r.policy ≡ false
unfolding may_follow
states-follow r c e h = not-true _ (both (not (is_zero r.policy)) (is_zero r.states) (simp e at h)).0

end-follows : (r : model.Reading) (c : ℕ) → c ≡ 5 → may_follow r c ≡ true → is_zero r.states ≡ false
unfolding may_follow
end-follows r c e h = not-true _ (simp e at h)

policy-some : (e : Edition) (r : model.Reading) (c p y z : ℕ) → c ≡ 2 → in_range e r c p y z ≡ true → 1 ≤ p
unfolding in_range
policy-some e r c p y z is h = leb-true _ _ (both (leb 1 p) (leb p 4) (simp is at h)).0

states-between : (e : Edition) (r : model.Reading) (c m y z : ℕ) → c ≡ 3 → in_range e r c m y z ≡ true → (1 ≤ m) × (m ≤ max_states)
unfolding in_range
states-between e r c m y z is h = let two = both (leb 1 m) (leb m max_states) (simp is at h) in (leb-true _ _ two.0, leb-true _ _ two.1)

-- a command by its number
pub readable-as : (r : Reading) (next : List ℕ) (x y z : ℕ) {c d : Command} → c ≡ d → Readable r next (command_number c) x y z → Readable r next (command_number d) x y z
readable-as r next x y z e h = subst (λ (c : Command). Readable r next (command_number c) x y z) e h

pub reads_as : (r n : Reading) (before after : List ℕ) (x y z : ℕ) {c d : Command} → c ≡ d → Reads r n before after (command_number d) x y z → Reads r n before after (command_number c) x y z
reads_as r n before after x y z e h = subst (λ (c : Command). Reads r n before after (command_number c) x y z) (sym e) h

module _ (r : Reading) (next : List ℕ) (x y z : ℕ) where
  passes : (c : ℕ) → (h : Readable r next c x y z) → Passes h.edition (reading_of r (arcs_in next)) c x y z
  passes c h = (fault-none h.edition (reading_of r (arcs_in next)) h.left c x y z h.passes).0

  -- ---- a task

  pub room-left : Readable r next 1 x y z → r.tasks.count < max_tasks
  room-left h = let k = task_follows _ 1 refl (passes 1 h).follows in omega (arith, k, tasks-size r.tasks)

  pub task-read : (h : Readable r next 1 x y z) (t : TaskList) → list_of t ≡ list_of r.tasks ++ (record { work = x; window = y; value = z; locked = false } ∷ []) → (Bare r.tasks → Bare t) →
      Reads r (record { tasks = t; lock = r.lock; policy = r.policy; states = r.states; least = r.least; ended = r.ended }) next next 1 x y z
  unfolding model.after
  task-read h t e b =
      let w = h.within in
      record {
        within = record {
          bare = b w.bare;
          locks = λ from. (λ i. any_locked (drop from (e i))) ∙ locks-task (list_of r.tasks) _ refl from ∙ w.locks from;
          states = w.states;
          some = w.some;
          policy = w.policy;
          end = w.end;
        };
        holds = h.holds;
        reading = λ i. record { tasks = e i; policy = given_in r.policy; states = given_in r.states; arcs = arcs_in next; ended = (passes 1 h).going i };
      }

  -- ---- the policy

  pub policy-read : (h : Readable r next 2 x y z) →
      Reads r (record { tasks = r.tasks; lock = r.lock; policy = Some x; states = r.states; least = r.least; ended = r.ended }) next next 2 x y z
  unfolding model.after
  policy-read h =
      let w = h.within in
      record {
        within = record {
          bare = w.bare;
          locks = w.locks;
          states = w.states;
          some = λ p q. subst (λ (k : ℕ). 1 ≤ k) (some-same x p q) (policy-some h.edition _ 2 x y z refl (passes 2 h).ranged);
          policy = λ m k q. some_given x q;
          end = w.end;
        };
        holds = h.holds;
        reading = λ i. record { tasks = list_of r.tasks; policy = x; states = given_in r.states; arcs = arcs_in next; ended = (passes 2 h).going i };
      }

  -- ---- the states

  pub states-read : (h : Readable r next 3 x y z) →
      Reads r (record { tasks = r.tasks; lock = r.lock; policy = r.policy; states = Some x; least = r.least; ended = r.ended }) next next 3 x y z
  unfolding model.after
  states-read h =
      let w = h.within in
      let p = passes 3 h in
      let t = states-between h.edition _ 3 x y z refl p.ranged in
      record {
        within = record {
          bare = w.bare;
          locks = w.locks;
          states = λ m q. subst (λ (k : ℕ). (1 ≤ k) × (k ≤ max_states)) (some-same x m q) t;
          some = w.some;
          policy = λ m q. given r.policy (states-follow _ 3 refl p.follows);
          end = λ q o. some_given x o;
        };
        holds = h.holds;
        reading = λ i. record { tasks = list_of r.tasks; policy = given_in r.policy; states = x; arcs = arcs_in next; ended = p.going i };
      }

  -- ---- the end

  pub end-read : (h : Readable r next 5 x y z) →
      Reads r (record { tasks = r.tasks; lock = r.lock; policy = r.policy; states = r.states; least = r.least; ended = true }) next next 5 x y z
  unfolding model.after
  end-read h =
      let w = h.within in
      record {
        within = record { bare = w.bare; locks = w.locks; states = w.states; some = w.some; policy = w.policy; end = λ e. given r.states (end-follows _ 5 refl (passes 5 h).follows) };
        holds = h.holds;
        reading = refl;
      }

  -- ---- a lock

  pub lock-there : Readable r next 9 x y z → (1 ≤ x) × (x ≤ r.tasks.count)
  lock-there h = let t = lock-ranged h.edition _ 9 x y z refl (passes 9 h).ranged in (t.0, omega (arith, t.1, tasks-size r.tasks))

  pub lock-above : Readable r next 9 x y z → r.lock < x
  lock-above h = ltb-true _ _ (sym (lock-rises r h.within x (lock-there h).0) ∙ (passes 9 h).above)

  pub lock-read : (h : Readable r next 9 x y z) (t : TaskList) → list_of t ≡ lock_at (list_of r.tasks) (x - 1) → (Bare r.tasks → Bare t) →
      Reads r (record { tasks = t; lock = x; policy = r.policy; states = r.states; least = r.least; ended = r.ended }) next next 9 x y z
  unfolding model.after
  lock-read h t e b =
      let w = h.within in
      let there = lock-there h in
      let above = lock-above h in
      let number : suc (x - 1) ≡ x = omega arith in
      record {
        within = record {
          bare = b w.bare;
          locks = λ from.
              (λ i. any_locked (drop from (e i)))
              ∙ locks-lock (list_of r.tasks) (x - 1) (omega (arith, there, tasks-size r.tasks)) (λ k g. w.locks k ∙ le-ltb k r.lock (omega (arith, above))) from
              ∙ ap (ltb from) number;
          states = w.states;
          some = w.some;
          policy = w.policy;
          end = w.end;
        };
        holds = h.holds;
        reading = λ i. record { tasks = e i; policy = given_in r.policy; states = given_in r.states; arcs = arcs_in next; ended = (passes 9 h).going i };
      }

  -- ---- an arc

  module _ (h : Readable r next 4 x y z) where
    arc_there : (x < given_in r.states) × (y < 2 ^ length (list_of r.tasks)) × (z < given_in r.states)
    arc_there = arc_ranged h.edition _ 4 x y z refl (passes 4 h).ranged

    arc-low : y < label_count
    arc-low = label-low h.edition r (arcs_in next) 4 x y z h.within (passes 4 h).ranged refl

    pub arc-to : z < max_states
    arc-to = lt_of_lt_of_le arc_there.2 (states-few r h.within)

    pub arc-place : x * label_count + y < pair_count
    arc-place = let few = lt_of_lt_of_le arc_there.0 (states-few r h.within) in omega (arith, few, arc-low)

    arc-above : r.least ≤ x * label_count + y
    arc-above = leb-true _ _ (sym (least-rises next r.least h.holds x y arc-low) ∙ (passes 4 h).above)

    -- a pair is told by its place
    arc-of-pair : arc_of (x * label_count + y) z ≡ record { from = x; label = y; to = z }
    arc-of-pair = λ i. record { from = pair_state x y arc-low i; label = pair_label x y arc-low i; to = z }

    pub arc-read : Reads r
        (record { tasks = r.tasks; lock = r.lock; policy = r.policy; states = r.states; least = x * label_count + y + 1; ended = r.ended })
        next (set next (x * label_count + y) (z + 1)) 4 x y z
    unfolding model.after
    arc-read =
        let k = x * label_count + y in
        let w = h.within in
        let arcs : arcs_in (set next k (z + 1)) ≡ arcs_in next ++ (record { from = x; label = y; to = z } ∷ []) =
        ap (λ (v : ℕ). arcs_in (set next k v)) (add-one z)
        ∙ arcs-add next r.least k z h.holds arc-above arc-place
        ∙ ap (λ (a : Arc). arcs_in next ++ (a ∷ [])) arc-of-pair in
        record {
          within = record { bare = w.bare; locks = w.locks; states = w.states; some = w.some; policy = w.policy; end = w.end };
          holds = rw (add-one z, add-one k) (holds-add next r.least k z h.holds arc-above arc-place);
          reading = λ i. record { tasks = list_of r.tasks; policy = given_in r.policy; states = given_in r.states; arcs = arcs i; ended = (passes 4 h).going i };
        }
