-- `checker::check_certificate` meets its contract: a fault of form, or the verdict. Assumes nothing.
use mathlib.Core.Path.{sym, ap, ◌∙◌}
use Rattle.std.specs.Result.{result_ok}
use Rattle.model.specs.Edition.{long_reads}
use Rattle.model.specs.Check.{check_read}
use Rattle.certificate.proofs.Placed.{read_as, is_read}
use Rattle.checker.proofs.check_certificate.Goals as goal

pub verdict-requires : goal.verdict-requires
verdict-requires c = (c.requires, is_read long_reads c.args.s.now c.read.ensures (c.ok_or.ensures.ok_part ∙ ap result_ok c.in_ok-parts.was))

pub returns-clause-result_value : goal.returns-clause-result_value
returns-clause-result_value c P p h =
    c.verdict.ensures.result_value P p h
    ∙ sym (ap (check_read P) (read_as long_reads c.args.s.now c.read.ensures (c.ok_or.ensures.ok_part ∙ ap result_ok c.in_ok-parts.was)))
