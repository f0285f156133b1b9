-- A write that asks for something is taken.
use Rattle.std.proofs.Common.{sym, ap, ◌∙◌}
use Rattle.model.specs.Controller.{refusal_of}
use Rattle.controller.proofs.Writes.{taken}
use Rattle.controller.proofs.refusal_of.Goals as goal

pub returns : goal.returns
returns c = sym (taken c.in_ok-of.field-0) ∙ ap refusal_of c.in_ok-of.ensures
