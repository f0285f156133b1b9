-- `exports::jovnetal_cap` meets its contract: each answer is its number.
-- Assumes nothing.
use mathlib.Core.Path.{◌≡◌, refl, sym, ap, ◌∙◌}
use mathlib.Core.List.{List}
use Prim.Native.Nat.{ℕ}
use Rattle.std.specs.Prelude.{None, Some, Ok}
use Rattle.cap.specs.View.{Answer, Checks}
use Rattle.exports.specs.Codes.{cap_code, slot_after, ChecksAs}
use Rattle.exports.proofs.jovnetal_cap.Goals as goal

-- the answer that a match has told
checks-as : {plan labels slot slot' : List ℕ} {slots work : ℕ} {a b : Answer} {r : ℕ} → a ≡ b → r ≡ cap_code b → slot' ≡ slot_after b slot →
    Checks plan labels slots work a → ChecksAs plan labels slots work slot slot' r
checks-as {slot = slot} {a = a} e code told checks = record {
  answer = a;
  code = code ∙ ap cap_code (sym e);
  told = told ∙ ap (λ (x : Answer). slot_after x slot) (sym e);
  checks = checks;
}

pub returns-in-Ok-None : goal.returns-in-Ok-None
returns-in-Ok-None c =
    let is : ◌≡◌ {A = Answer} c.check.result (Ok None) = c.in-Ok-None.is ∙ ap Ok c.in-Ok-None.field-0-is in
    checks-as is refl refl c.check.ensures

pub returns-in-Ok-Some : goal.returns-in-Ok-Some
returns-in-Ok-Some c =
    let is : ◌≡◌ {A = Answer} c.check.result (Ok (Some c.in-Ok-Some.t)) = c.in-Ok-Some.is ∙ ap Ok c.in-Ok-Some.field-0-is in
    checks-as is refl refl c.check.ensures

pub returns-in-Err : goal.returns-in-Err
returns-in-Err c = checks-as c.in-Err.is c.refusal_code.ensures refl c.check.ensures
