-- `plan_cases::combines::write_combined` meets its contract: the line is that of what the call told.
-- Assumes nothing.
use mathlib.Core.Path.{ap, ◌∙◌}
use lib.ListN.{length}
use Rattle.model.specs.Calls.{Result}
use Rattle.answer_text.specs.Finish.{result_line}
use Rattle.plan_cases.proofs.combines.write_combined.Goals as goal

pub returns : goal.returns
returns c =
    let t = c.rewrite-answer.ensures.told in
    record {
      value = c.write_result.ensures ∙ ap (λ (r : Result). length (result_line r)) t.answer;
      out_after = t.output;
    }
