-- `answer_text::put_line` meets its contract: each answer has its line.
-- Assumes nothing.
use mathlib.Core.Path.{◌≡◌, refl, sym, ap, ◌∙◌}
use mathlib.Core.List.{List}
use Prim.Native.Nat.{ℕ}
use native.Mathlib.Omega.{arith}
use Rattle.io.specs.Counts.{IsPrefixLen}
use Rattle.model.specs.Bytes.{Put}
use Rattle.model.specs.Text.{refused_line}
use Rattle.words.proofs.Put.{put_as}
use Rattle.text.proofs.Decimal.{number-most, refused-most}
use Rattle.text.proofs.Put.{put-inside}
use Rattle.refusals.specs.Told.{Answer}
use Rattle.refusals.specs.Told.{result_by}
use Rattle.answer_text.specs.Finish.{result_line}
use Rattle.answer_text.proofs.put_line.Goals as goal

-- the line of the answer that a match has told
as_line : {a b : Answer} {m l bs : List ℕ} {n : ℕ} → a ≡ b → bs ≡ result_line (result_by b) → Put m l 0 bs n → Put m l 0 (result_line (result_by a)) n × IsPrefixLen n l
as_line {a} {m = m} {l = l} {n = n} e f p =
    let q = put_as (f ∙ sym (ap (λ (r : Answer). result_line (result_by r)) e)) p in
    (q, put-inside m l (result_line (result_by a)) n q)

pub put_refusal-requires : goal.put_refusal-requires
put_refusal-requires c = omega (arith, refused-most c.number.result (omega arith))

pub put_number_line-requires : goal.put_number_line-requires
put_number_line-requires c = omega (arith, number-most c.in-Ok.n (omega arith))

pub returns-in-Err : goal.returns-in-Err
returns-in-Err c =
    let r = as_line c.in-Err.is (ap refused_line c.number.ensures) c.put_refusal.ensures in
    record { put = r.0; prefix_len = r.1 }

pub returns-in-Ok : goal.returns-in-Ok
returns-in-Ok c =
    let r = as_line c.in-Ok.is refl c.put_number_line.ensures in
    record { put = r.0; prefix_len = r.1 }
