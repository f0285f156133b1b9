-- A refusal is its line, a share its numbers.
use mathlib.Core.Path.{◌≡◌, sym, ap, ◌∙◌}
use native.Mathlib.Omega.{arith}
use Rattle.model.specs.Check.{CheckAnswer}
use Rattle.model.specs.Text.{refused_line, check_text}
use Rattle.checker.specs.Promise.{Answer, answer_of}
use Rattle.text.proofs.Decimal.{refused-length, decimal-length}
use Rattle.words.proofs.Put.{put_as}
use Rattle.text.proofs.Put.{counted}
use Rattle.check_text.proofs.put_check.Goals as goal

-- the text of an answer, by the answer that it is
text_of : {a b : Answer} {d : CheckAnswer} → a ≡ b → answer_of a ≡ d → check_text (answer_of b) ≡ check_text d
text_of e h = ap check_text (sym (ap answer_of e) ∙ h)

pub put_refusal-requires : goal.put_refusal-requires
put_refusal-requires c =
    let n = c.number.result in
    omega (arith, c.requires, refused-length n, decimal-length 19 n (omega arith))

pub returns-in-Err : goal.returns-in-Err
unfolding check_text
returns-in-Err c =
    let n = c.number.result in
    record {
      put = put_as (ap refused_line c.number.ensures ∙ text_of c.in-Err.is c.check.ensures.answer) c.put_refusal.ensures;
      prefix_len = counted _ _ (omega (arith, c.put_refusal.ensures.next, refused-length n, decimal-length 19 n (omega arith), c.requires));
      work_after = c.check.ensures.memory;
    }

pub returns-in-Ok : goal.returns-in-Ok
returns-in-Ok c =
    record {
      put = put_as (text_of c.in-Ok.is c.check.ensures.answer) c.put_share.ensures.put;
      prefix_len = counted _ _ (omega (arith, c.put_share.ensures.upper_bound, c.requires));
      work_after = c.check.ensures.memory;
    }
