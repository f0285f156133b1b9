-- `cap_text::put_line` meets its contract: each answer has its line.
-- Assumes nothing.
use mathlib.Core.Path.{◌≡◌, refl, sym, ap, ◌∙◌}
use mathlib.Core.List.{List}
use Prim.Native.Nat.{ℕ}
use native.Mathlib.Omega.{arith}
use Rattle.std.specs.Prelude.{Ok, Some, None}
use Rattle.io.specs.Counts.{IsPrefixLen}
use Rattle.model.specs.Bytes.{Put}
use Rattle.model.specs.Text.{refused_line, cap_text}
use Rattle.words.proofs.Put.{put_as}
use Rattle.text.proofs.Decimal.{refused-most}
use Rattle.text.proofs.Put.{put-inside}
use Rattle.cap.specs.View.{Answer, answer_of}
use Rattle.cap_text.proofs.put_line.Goals as goal

-- the line of the answer that a match has told
as_line : {a b : Answer} {m l bs : List ℕ} {n : ℕ} → a ≡ b → bs ≡ cap_text (answer_of b) → Put m l 0 bs n → Put m l 0 (cap_text (answer_of a)) n × IsPrefixLen n l
as_line {a} {m = m} {l = l} {n = n} e f p =
    let q = put_as (f ∙ sym (ap (λ (r : Answer). cap_text (answer_of r)) e)) p in
    (q, put-inside m l (cap_text (answer_of a)) n q)

pub put_refusal-requires : goal.put_refusal-requires
put_refusal-requires c = omega (arith, refused-most c.number.result (omega arith))

pub returns-in-Err : goal.returns-in-Err
unfolding cap_text
returns-in-Err c =
    let r = as_line c.in-Err.is (ap refused_line c.number.ensures) c.put_refusal.ensures in
    record { put = r.0; prefix_len = r.1 }

pub returns-in-Ok-Some : goal.returns-in-Ok-Some
unfolding cap_text
returns-in-Ok-Some c =
    let some = rw c.in-Ok-Some.is at c.in-Ok-Some.field-0-is in
    let is : ◌≡◌ {A = Answer} c.args.answer (Ok (Some c.in-Ok-Some.t)) = c.in-Ok-Some.is ∙ ap Ok some in
    let r = as_line is refl c.put_slot.ensures in
    record { put = r.0; prefix_len = r.1 }

pub returns-in-Ok-None : goal.returns-in-Ok-None
unfolding cap_text
returns-in-Ok-None c =
    let none = rw c.in-Ok-None.is at c.in-Ok-None.field-0-is in
    let is : ◌≡◌ {A = Answer} c.args.answer (Ok None) = c.in-Ok-None.is ∙ ap Ok none in
    let r = as_line is refl c.put_bytes.ensures in
    record { put = r.0; prefix_len = r.1 }
