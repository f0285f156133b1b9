-- `plan_cases::gaps::write_gap` meets its contract: the line is that of what the call told for the group that is named.
-- Assumes nothing.
use mathlib.Core.Path.{ap, ◌∙◌}
use lib.ListN.{length}
use Rattle.model.specs.Calls.{Result}
use Rattle.model.specs.Gap.{Group, in_group}
use Rattle.answer_text.specs.Finish.{result_line}
use Rattle.plan_cases.proofs.gaps.write_gap.Goals as goal

pub returns : goal.returns
returns c =
    let t = c.rewrite-answer.ensures.named _ (λ i. ap (λ (g : Group). in_group g i) c.named.ensures) in
    record {
      value = c.write_result.ensures ∙ ap (λ (r : Result). length (result_line r)) t.answer;
      out_after = t.output;
    }
