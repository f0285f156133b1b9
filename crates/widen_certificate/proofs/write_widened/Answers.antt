-- `widen_certificate::write_widened` meets its contract: the call's answer, finished.
-- Assumes nothing.
use Rattle.model.specs.Certificate.{certificate_bytes}
use Rattle.answer_text.proofs.Finished.{finished, told_printable}
use borrow.Author.Rules.{rules}
use Rattle.widen_certificate.proofs.write_widened.Goals as goal

pub print-requires : goal.print-requires
print-requires c = told_printable certificate_bytes _ _ _ _ (search rules) c.widen-answer.ensures.told

pub returns : goal.returns
returns c =
    finished certificate_bytes _ _ _ _ _ _ c.widen-answer.ensures.told c.print.ensures
