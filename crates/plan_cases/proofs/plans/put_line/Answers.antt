-- `plan_cases::plans::put_line` meets its contract: each answer has the definition's line.
-- Assumes nothing.
use mathlib.Core.Path.{◌≡◌, refl, sym, ap, ◌∙◌}
use mathlib.Core.List.{List}
use Prim.Native.Nat.{ℕ}
use native.Mathlib.Omega.{arith}
use Rattle.std.specs.Prelude as rust
use Rattle.model.specs.Plan.{PlanAnswer}
use Rattle.model.specs.Text.{refused_line}
use Rattle.model.specs.Bytes.{Put}
use Rattle.plan.specs.declared.Fault.{Fault}
use Rattle.plan.specs.declared.tasks.Plan.{Plan}
use Rattle.plan.specs.View.{answer_of}
use Rattle.words.proofs.Put.{put_as}
use Rattle.text.proofs.Put.{counted}
use Rattle.text.proofs.Decimal.{refused-length, decimal-length}
use Rattle.plan_cases.specs.Lines.{plan_line}
use Rattle.plan_cases.proofs.plans.put_line.Goals as goal

-- a line of the answer that a match has told
as_line : {m n bs : List ℕ} {r : ℕ} {read known : rust.Result Plan Fault} {a : PlanAnswer} → answer_of read ≡ a → read ≡ known →
    bs ≡ plan_line (answer_of known) → Put m n 0 bs r → Put m n 0 (plan_line a) r
as_line e is line = put_as (line ∙ sym (ap (λ (k : rust.Result Plan Fault). plan_line (answer_of k)) is) ∙ ap plan_line e)

pub put_refusal-requires : goal.put_refusal-requires
put_refusal-requires c =
    let n = c.number.result in
    omega (arith, refused-length n, decimal-length 19 n (omega arith))

pub returns-in-Ok : goal.returns-in-Ok
returns-in-Ok c =
    record {
      put = as_line c.read.ensures c.in-Ok.is refl c.put_bytes.ensures;
      prefix_len = counted _ _ (omega (arith, c.put_bytes.ensures.next));
    }

pub returns-in-Err : goal.returns-in-Err
returns-in-Err c =
    let n = c.number.result in
    record {
      put = as_line c.read.ensures c.in-Err.is (ap refused_line c.number.ensures) c.put_refusal.ensures;
      prefix_len = counted _ _ (omega (arith, c.put_refusal.ensures.next, refused-length n, decimal-length 19 n (omega arith)));
    }
