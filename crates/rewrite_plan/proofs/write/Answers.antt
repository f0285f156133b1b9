-- `rewrite_plan::write` meets its contract: the call's answer, finished.
-- Assumes nothing.
use Rattle.answer_text.proofs.Finished.{finished, told_printable}
use Rattle.rewrite_plan.specs.Commands.{spelled}
use borrow.Author.Rules.{rules}
use Rattle.rewrite_plan.proofs.write.Goals as goal

pub print-requires : goal.print-requires
print-requires c = told_printable (spelled c.args.command) _ _ _ _ (search rules) c.make-answer.ensures

pub returns : goal.returns
returns c = finished (spelled c.args.command) _ _ _ _ _ _ c.make-answer.ensures c.print.ensures
