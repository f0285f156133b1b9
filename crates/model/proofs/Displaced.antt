-- The displaced job is the one that ran in the slot before, is among the jobs that the slot finds, and is never the one that runs.
-- Assumes nothing.
use mathlib.Core.Path.{◌≡◌, refl, sym, ◌∙◌, ap, subst}
use mathlib.Core.Bool.{Bool, true, false, not, cond, ◌&&◌, or-false}
use mathlib.Core.List.{List, Memᴰ}
use mathlib.Core.Logic.{◌↔◌}
use mathlib.Core.Option.{Option, none, some, none-ne-some, some-injective}
use Prim.Native.Nat.{◌<◌}
use borrow.Author.Tests.{ltb-true, lt-ltb, eqb-true, eq-eqb, not-true}
use lib.Dec.{ltb, eqb}
use Rattle.model.specs.Interrupted.{Displaced}
use Rattle.model.specs.Lists.{any, list_of}
use Rattle.model.specs.Slot.{Job, JobId, id_of, has_id, unfinished, displaced}
use Rattle.model.proofs.Plan.{both}
use Rattle.model.proofs.Tests.{true-and, cond-some, any_some}

-- a job has its own id and no other
pub has_id_lem : (i : JobId) (j : Job) → (has_id i j ≡ true) ↔ (i ≡ id_of j)
has_id_lem i j = (
  λ h.
      let two = both (eqb i.task j.task) (eqb i.left j.left) h in
      λ k. record { task = eqb-true i.task j.task two.0 k; left = eqb-true i.left j.left two.1 k },
  λ e.
      true-and (eqb i.task j.task) (eqb i.left j.left) (eq-eqb i.task j.task (ap (λ (a : JobId). a.task) e))
      (eq-eqb i.left j.left (ap (λ (a : JobId). a.left) e)),
)

-- the test of the jobs that the slot finds
pub found-is : (i : JobId) (js : List Job) → (any (λ j. has_id i j && unfinished j) js ≡ true) ↔ ((j : Job) × Memᴰ j js × (has_id i j ≡ true) × (0 < j.work))
found-is i js =
    let some-found = any_some (λ j. has_id i j && unfinished j) js in (
      λ h.
          let r = some-found.0 h in
          let two = both (has_id i r.0) (ltb 0 r.0.work) r.2 in
          (r.0, r.1, two.0, ltb-true 0 r.0.work two.1),
      λ r. some-found.1 (r.0, r.1, true-and (has_id i r.0) (ltb 0 r.0.work) r.2 (lt-ltb 0 r.0.work r.3)),
    )

-- and that of the job that is chosen
other-is : (i : JobId) (chosen : Option Job) → (any (has_id i) (list_of chosen) ≡ false) ↔ ((c : Job) → chosen ≡ some c → has_id i c ≡ false)
other-is i none = (λ h c e. absurd (none-ne-some c e), λ h. refl)
other-is i (some x) = (
  λ h c e. ap (has_id i) (sym (some-injective x c e)) ∙ sym (or-false (has_id i x)) ∙ h,
  λ h. or-false (has_id i x) ∙ h x refl,
)

-- the definition gives a job exactly where it is displaced
pub displaced-is : (ran : Option JobId) (js : List Job) (chosen : Option Job) (i : JobId) → (displaced ran js chosen ≡ some i) ↔ Displaced ran js chosen i
displaced-is none js chosen i = (λ h. absurd (none-ne-some i h), λ d. absurd (none-ne-some i d.before))
displaced-is (some r) js chosen i = (to, from)
  where
    present : Bool
    present = any (λ j. has_id r j && unfinished j) js

    runs_on : Bool
    runs_on = any (has_id r) (list_of chosen)

    to : cond (present && not runs_on) (some r) none ≡ some i → Displaced (some r) js chosen i
    to h =
        let given = cond-some (present && not runs_on) (some r) h in
        let two = both present (not runs_on) given.0 in
        subst (Displaced (some r) js chosen) (some-injective r i given.1) (record {
          before = refl;
          found = (found-is r js).0 two.0;
          other = (other-is r chosen).0 (not-true runs_on two.1);
        })

    from : Displaced (some r) js chosen i → cond (present && not runs_on) (some r) none ≡ some i
    from d =
        let e = subst (Displaced (some r) js chosen) (sym (some-injective r i d.before)) d in
        ap (λ (b : Bool). cond b (some r) none)
        (true-and present (not runs_on) ((found-is r js).1 e.found) (ap not ((other-is r chosen).1 e.other)))
        ∙ d.before
