-- The order in which a call that writes bytes refuses, and what it tells.
-- Assumes nothing.
use mathlib.Core.Path.{◌≡◌, ap, ◌∙◌}
use mathlib.Core.Bool.{Bool, cond}
use mathlib.Core.List.{List}
use Prim.Native.Nat.{ℕ, ◌≤◌, ◌<◌}
use native.Mathlib.Omega.{arith}
use borrow.Author.Tests.{lt-ltb, le-ltb}
use Rattle.model.specs.Refusals.{short_memory}
use Rattle.model.specs.Plan.{Plan, PlanAnswer}
use Rattle.model.specs.Calls.{refused, Writing, refuses, writes, with_room, with_plan, result_of}

module _ {A : Type 0} where
  -- the room comes first
  module _ (room lent : ℕ) (due : Writing A) where
    pub room-short : lent < room → with_room room lent due ≡ refuses short_memory
    room-short h = ap (λ (b : Bool). cond b (refuses short_memory) due) (lt-ltb lent room h)

    pub room_enough : room ≤ lent → with_room room lent due ≡ due
    room_enough h = ap (λ (b : Bool). cond b (refuses short_memory) due) (le-ltb lent room h)

  -- and then the plan that was read
  pub by_plan : (room lent : ℕ) (f : Plan → Writing A) (read a : PlanAnswer) → room ≤ lent → read ≡ a →
      with_room room lent (with_plan read f) ≡ with_plan a f
  by_plan room lent f read a h e = room_enough room lent (with_plan read f) h ∙ ap (λ (p : PlanAnswer). with_plan p f) e

  -- a number that is told as a refusal's was due
  pub refused-due : (spell : A → List ℕ) (n : ℕ) (due : Writing A) → result_of spell due ≡ refused n → due ≡ refuses n
  refused-due spell n (refuses m) e = cc
  refused-due spell n (writes a) e = let z : ◌≡◌ {A = ℕ} 0 1 = cc in absurd (omega arith)
