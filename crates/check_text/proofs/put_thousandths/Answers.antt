-- The text of a number, by the answer that it is.
use mathlib.Core.Path.{sym, ap, ◌∙◌}
use native.Mathlib.Omega.{arith}
use Rattle.model.specs.Text.{thousandths_text}
use Rattle.model.specs.Options.{option_of}
use Rattle.text.proofs.Decimal.{decimal-length}
use Rattle.words.proofs.Put.{put_as}
use Rattle.check_text.proofs.put_thousandths.Goals as goal

pub put_number-requires : goal.put_number-requires
put_number-requires c = omega (arith, c.requires, decimal-length 19 c.in-Some.m (omega arith))

pub returns-in-None : goal.returns-in-None
returns-in-None c =
    record {
      put = put_as (ap thousandths_text (sym (ap option_of c.in-None.is) ∙ c.thousandths.ensures.result_value)) c.put_bytes.ensures;
      upper_bound = omega (arith, c.put_bytes.ensures.next);
    }

pub returns-in-Some : goal.returns-in-Some
returns-in-Some c =
    record {
      put = put_as (ap thousandths_text (sym (ap option_of c.in-Some.is) ∙ c.thousandths.ensures.result_value)) c.put_number.ensures;
      upper_bound = omega (arith, c.put_number.ensures.next, decimal-length 19 c.in-Some.m (omega arith));
    }
