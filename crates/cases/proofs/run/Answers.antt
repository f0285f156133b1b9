-- `cases::run` meets its contract: a kind is known where one of the three crates has it.
-- Assumes nothing.
use mathlib.Core.Path.{◌≡◌, refl, sym, ◌∙◌}
use mathlib.Core.Bool.{Bool, ◌||◌}
use Prim.Native.Nat.{ℕ}
use Rattle.plan_cases.specs.Kinds.{is_plan_kind}
use Rattle.edition_cases.specs.Kinds.{is_edition_kind}
use Rattle.certificate_cases.specs.Kinds.{is_certificate_kind}
use Rattle.cases.proofs.run.Goals as goal

-- by what the three answer
by-answers : (k : ℕ) {p e c : Bool} → p ≡ is_plan_kind k → e ≡ is_edition_kind k → c ≡ is_certificate_kind k →
    (p || e || c) ≡ (is_plan_kind k || is_edition_kind k || is_certificate_kind k)
by-answers k p e c = λ i. p i || e i || c i

pub returns-then-run : goal.returns-then-run
returns-then-run c = by-answers c.args.kind (sym c.if-run.true ∙ c.run.ensures) refl refl

pub returns-then-run-2 : goal.returns-then-run-2
returns-then-run-2 c =
    by-answers c.args.kind (sym c.if-run.false ∙ c.run.ensures) (sym c.if-run-2.true ∙ c.run-2.ensures) refl

pub returns : goal.returns
returns c =
    by-answers c.args.kind (sym c.if-run.false ∙ c.run.ensures) (sym c.if-run-2.false ∙ c.run-2.ensures) c.run-3.ensures
