-- What a call's answer says, by its tests.
-- Assumes nothing.
use mathlib.Core.Path.{◌≡◌, refl, sym, ap, ◌∙◌}
use mathlib.Core.Bool.{Bool, true, false, cond}
use Prim.Native.Nat.{ℕ}
use native.Mathlib.Omega.{arith}
use lib.Dec.{ltb}
use Rattle.model.specs.Calls.{Writing, refuses, writes, with_plan, with_room}
use Rattle.model.specs.Refusals.{short_memory}
use Rattle.model.specs.Plan.{Plan, PlanAnswer, faulty, sound}

module _ {A : Type 0} where
  -- of two answers the one that is taken writes
  pub taken : (b : Bool) (n : ℕ) (due : Writing A) (a : A) → cond b due (refuses n) ≡ writes a → (b ≡ true) × (due ≡ writes a)
  taken true n due a e = (refl, e)
  taken false n due a e = let z : ◌≡◌ {A = ℕ} 0 1 = cc in absurd (omega arith)

  pub passed : (b : Bool) (n : ℕ) (due : Writing A) (a : A) → cond b (refuses n) due ≡ writes a → (b ≡ false) × (due ≡ writes a)
  passed true n due a e = let z : ◌≡◌ {A = ℕ} 0 1 = cc in absurd (omega arith)
  passed false n due a e = (refl, e)

  -- a call over a plan that is sound
  pub over : (room lent : ℕ) (read : PlanAnswer) (f : Plan → Writing A) (P : Plan) (a : A) → read ≡ sound P →
      with_room room lent (with_plan read f) ≡ writes a → f P ≡ writes a
  over room lent read f P a r e =
      sym (ap (λ p. with_plan p f) r) ∙ (passed (ltb lent room) short_memory (with_plan read f) a e).1

  -- where it writes, the plan is sound
  pub over-sound : (room lent : ℕ) (read : PlanAnswer) (f : Plan → Writing A) (a : A) → with_room room lent (with_plan read f) ≡ writes a →
      (P : Plan) × (read ≡ sound P)
  over-sound room lent read f a e = go read (passed (ltb lent room) short_memory (with_plan read f) a e).1
    where
      go : (r : PlanAnswer) → with_plan r f ≡ writes a → (P : Plan) × (r ≡ sound P)
      go (faulty n) w = let z : ◌≡◌ {A = ℕ} 0 1 = cc in absurd (omega arith)
      go (sound P) w = (P, refl)
