-- A write that is refused changes nothing, and any other is made.
use Rattle.std.proofs.Common.{refl, sym, ap, ◌∙◌, arith}
use Rattle.std.proofs.lemmas.Result.{err_from_is_err_and}
use Rattle.model.specs.Controller.{after_write, refusal_of}
use Rattle.policy.specs.View.{tasks_in}
use Rattle.refusals.specs.Numbers.{refusal_number}
use Rattle.controller.specs.Block.{block_of}
use Rattle.controller.specs.View.{write_of}
use Rattle.controller.proofs.Writes.{taken, kept}
use Rattle.controller.proofs.step.Goals as goal

pub returns-in_err-action : goal.returns-in_err-action
returns-in_err-action c =
    let a = c.args in
    let e = c.in_err-action.ensures in
    let p = err_from_is_err_and c.from_residual.result c.from_residual.ensures.1 in
    rw (p.1, p.2) (record {
      block = record { is = λ P part. sym (kept P (block_of (tasks_in a.machine.now.rules) a.block.now) (write_of a.byte a.value) e.1); ready = c.requires };
      unchanged = λ h. refl;
      refusal = ap refusal_number e.0 ∙ sym e.1;
    })

pub returns : goal.returns
returns c =
    let a = c.args in
    let e = c.in_ok-action.ensures in
    let same = ap refusal_of e in
    record {
      block = record { is = λ P part. c.make.ensures.is P part ∙ ap (after_write P (block_of (tasks_in a.machine.now.rules) a.block.now)) e; ready = c.make.ensures.ready };
      unchanged = λ h. absurd (omega (arith, h, same, taken c.in_ok-action.action));
      refusal = sym (taken c.in_ok-action.action) ∙ same;
    }
