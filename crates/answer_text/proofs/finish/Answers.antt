-- `answer_text::finish` meets its contract: each answer is finished as it is.
-- Assumes nothing.
use mathlib.Core.Path.{◌≡◌, refl, sym, ap, subst}
use mathlib.Core.List.{List}
use Prim.Native.Nat.{ℕ}
use native.Mathlib.Omega.{arith}
use Rattle.model.specs.Text.{refused_line}
use Rattle.words.proofs.Put.{put_as}
use Rattle.text.proofs.Decimal.{refused-most}
use Rattle.refusals.specs.Told.{Answer}
use Rattle.answer_text.specs.Finish.{Finishes}
use Rattle.answer_text.proofs.finish.Goals as goal

-- the answer that a match has told
finishes-as : (m l : List ℕ) (n : ℕ) {a b : Answer} → a ≡ b → Finishes a m l n → Finishes b m l n
finishes-as m l n e f = subst (λ (r : Answer). Finishes r m l n) e f

pub put_refusal-requires : goal.put_refusal-requires
put_refusal-requires c = omega (arith, refused-most c.number.result (omega arith))

pub returns-in-Err : goal.returns-in-Err
returns-in-Err c =
    finishes-as _ _ _ (sym c.in-Err.is) (put_as (ap refused_line c.number.ensures) c.put_refusal.ensures)

pub returns-in-Ok : goal.returns-in-Ok
returns-in-Ok c = finishes-as _ _ _ (sym c.in-Ok.is) (refl, refl)
