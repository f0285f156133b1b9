-- What is told, by its number.
-- Assumes nothing.
use mathlib.Core.Path.{◌≡◌, refl, sym, ap, subst, ◌∙◌}
use mathlib.Core.List.{List}
use Prim.Native.Nat.{ℕ, ◌+◌, ◌<◌}
use native.Mathlib.Omega.{arith}
use lib.ListN.{length, take}
use Rattle.std.specs.Prelude.{Ok, Err}
use Rattle.model.specs.Calls.{Writing, refuses, writes}
use Rattle.model.specs.Convert.{Converted}
use Rattle.model.specs.Edition.{Edition}
use Rattle.model.specs.Gap.{Group, HasGap}
use Rattle.model.specs.Plan.{Plan}
use Rattle.refusals.specs.Numbers.{refusal_number}
use Rattle.refusals.specs.Told.{Answer, result_by, Told}
use Rattle.refusals.proofs.Told.{told-bytes, told-due}
use Rattle.convert.specs.Promise.{Converts}
use Rattle.gap.specs.Promise.{Rewrites}
use Rattle.exports.specs.Codes.{code_of, TellsAs, ConvertsAs, RewritesAs}

-- what holds of the bytes that were written holds by the number, where that is below a refusal's
pub by_number : (F : ℕ → Type 0) (a : Answer) {r : ℕ} → r ≡ code_of (result_by a) → ((n : ℕ) → a ≡ Ok n → F n) → r < 65536 → F r
by_number F (Err f) e w small = absurd (omega (arith, e))
by_number F (Ok n) e w small = subst F (sym e) (w n refl)

module _ {A : Type 0} {spell : A → List ℕ} {due : Writing A} {out out' : List ℕ} {r : ℕ} where
  pub tells_as : {a : Answer} → Told spell due out out' a → r ≡ code_of (result_by a) → TellsAs spell due out out' r
  tells_as t e = record { code = e ∙ ap code_of t.answer; output = t.output }

  -- a refusal that is told by its number was due, since all that is written is shorter
  pub due_by_number : (a : Answer) (k : ℕ) → ((x : A) → due ≡ writes x → length (spell x) < 65536) → Told spell due out out' a → r ≡ code_of (result_by a) →
      r ≡ 65536 + k → due ≡ refuses k
  due_by_number (Err f) k short t e h =
      let same : refusal_number f ≡ k = omega (arith, e, h) in
      told-due spell due out out' f t ∙ ap refuses same
  due_by_number (Ok n) k short t e h =
      let b = told-bytes spell due out out' n t in
      absurd (omega (arith, e, h, b.size, short b.what b.is_due))

module _ {from to : Edition} {call taken_back : List ℕ → ℕ → Writing Plan} {plan out out' : List ℕ} {r : ℕ} where
  pub converts_as : (a : Answer) → Converts from to call taken_back plan out out' a → r ≡ code_of (result_by a) → ConvertsAs from to call taken_back plan out out' r
  converts_as a w e = record {
    tells = tells_as w.told e;
    kept = λ P read. by_number (λ k. Converted from to taken_back plan (take k out') P) a e (w.kept P read);
  }

module _ {plan : List ℕ} {group : Group} {slots : ℕ} {out out' : List ℕ} {r : ℕ} where
  pub rewrites_as : (a : Answer) → Rewrites plan group slots out out' a → r ≡ code_of (result_by a) → RewritesAs plan group slots out out' r
  rewrites_as a w e = record {
    tells = tells_as w.told e;
    named = λ other same. tells_as (w.named other same) e;
    kept = λ P read. by_number (λ k. HasGap P group slots (take k out')) a e (w.kept P read);
  }
