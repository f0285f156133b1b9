-- `tracer::trace_plan` meets its contract: the tests on the labels are the definition's, and then the slots are written.
-- Assumes nothing.
use Rattle.std.proofs.Common.{refl, sym, ◌∙◌}
use Rattle.plan.specs.View.{plan_of}
use Rattle.policy.proofs.Plans.{states_fit_lem}
use Rattle.refusals.proofs.Told.{told-refusal}
use Rattle.tracer.proofs.Answers.{told-trace, too_many, not-admitted, all-admitted}
use Rattle.tracer.proofs.trace_plan.Goals as goal

pub returns-then-n-gt-MAX_LABELS : goal.returns-then-n-gt-MAX_LABELS
returns-then-n-gt-MAX_LABELS c = told-refusal _ _ _ _ (too_many _ _ c.if-n-gt-MAX_LABELS.true)

pub admitted-requires : goal.admitted-requires
admitted-requires c = states_fit_lem (plan_of c.args.plan) c.requires.0 _ refl

pub returns-then-not-admitted : goal.returns-then-not-admitted
returns-then-not-admitted c =
    let P = plan_of c.args.plan in
    told-refusal _ _ _ _ (not-admitted P _ c.if-n-gt-MAX_LABELS.false (sym (c.admitted.ensures P refl) ∙ c.if-not-admitted.true))

pub returns : goal.returns
returns c =
    let P = plan_of c.args.plan in
    let m = c.of-machine.ensures in
    told-trace _ P c.args.labels.now _ _ (all-admitted _ _ c.if-n-gt-MAX_LABELS.false (sym (c.admitted.ensures P refl) ∙ c.if-not-admitted.false))
    (c.write_slots.ensures P (sym m.rules.tasks) (sym m.rules.policy))
