-- `checker::check_plan` meets its contract: too many nodes, or the certificate against them. Assumes nothing.
use mathlib.Core.Path.{sym, ap, ◌∙◌}
use Prim.Native.Nat.{ℕ}
use lib.ListN.{length}
use Rattle.std.specs.Prelude as rust
use Rattle.std.specs.Prelude.{Err}
use Rattle.std.specs.Option.{ok_or}
use Rattle.std.proofs.lemmas.Option.{same_Some}
use Rattle.std.proofs.lemmas.Result.{err_from_is_err_and}
use Rattle.refusals.specs.declared.Refusal.TheVariants.{TooManyNodes}
use Rattle.model.specs.Graph.{nodes}
use Rattle.model.specs.Options.{option_of}
use Rattle.plan.specs.View.{plan_of}
use Rattle.std.specs.Result.{result_ok, result_err}
use Rattle.checker.specs.Promise.{answer_of}
use Rattle.checker.proofs.Answers.{large, small, planned_by}
use Rattle.checker.proofs.check_plan.Goals as goal

pub check_certificate-requires : goal.check_certificate-requires
check_certificate-requires c =
    let p = c.args.plan in
    let of = planned_by c.requires.0 c.of-machine.ensures in
    let found = c.ok_or.ensures.ok_part ∙ ap result_ok c.in_ok-n.was in
    record { plan = plan_of p; planned = of; holds = c.discover.ensures.discovers.held c.in_ok-n.n found (plan_of p) of }

pub returns-in_err-n-clause-result_value : goal.returns-in_err-n-clause-result_value
returns-in_err-n-clause-result_value c =
    let p = c.args.plan in
    let of = planned_by c.requires.0 c.of-machine.ensures in
    let told = err_from_is_err_and c.from_residual.result c.from_residual.ensures.1 in
    let missing = c.ok_or.ensures.ok_part ∙ ap result_ok c.in_err-n.was in
    let many = same_Some _ _ (ap result_err (sym c.in_err-n.was ∙ c.ok_or.ensures.value ∙ ap (λ (o : rust.Option ℕ). ok_or o TooManyNodes) missing)) in
    ap answer_of (told.1 ∙ ap Err (told.2 ∙ many))
    ∙ large (plan_of p) (length (nodes (plan_of p))) c.args.s.now (sym (ap option_of missing) ∙ c.discover.ensures.discovers.answer (plan_of p) of)

pub returns-clause-result_value : goal.returns-clause-result_value
returns-clause-result_value c =
    let p = c.args.plan in
    let of = planned_by c.requires.0 c.of-machine.ensures in
    let found = c.ok_or.ensures.ok_part ∙ ap result_ok c.in_ok-n.was in
    c.check_certificate.ensures.result_value (plan_of p) of (c.discover.ensures.discovers.held c.in_ok-n.n found (plan_of p) of)
    ∙ small (plan_of p) (length (nodes (plan_of p))) _ c.args.s.now (sym (ap option_of found) ∙ c.discover.ensures.discovers.answer (plan_of p) of)
