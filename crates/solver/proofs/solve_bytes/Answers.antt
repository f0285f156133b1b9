-- `solver::solve_bytes` meets its contract: the plan's fault, or the certificate of a sound plan. Assumes nothing.
use mathlib.Core.Path.{refl, sym, subst}
use Rattle.std.specs.Prelude.{Err}
use Rattle.std.proofs.lemmas.Result.{err_from_is_err_and}
use Rattle.model.specs.Plan.{PlanAnswer}
use Rattle.model.specs.Solve.{solve_plan}
use Rattle.refusals.specs.declared.Refusal.TheVariants.{Plan}
use Rattle.solver.specs.Promise.{Does}
use Rattle.solver.proofs.solve_bytes.Goals as goal

pub returns-in_err-read-clause-does : goal.returns-in_err-read-clause-does
returns-in_err-read-clause-does c =
    let out = c.args.out.now in
    let fault = c.in_err-read.field-0.0 in
    let p = err_from_is_err_and c.from_residual.result c.from_residual.ensures.1 in
    rw (p.1, p.2) (subst (λ (a : PlanAnswer). Does (solve_plan a) out out (Err (Plan fault))) c.in_err-read.ensures (record { number = refl; kept = refl }))

pub solve_plan-requires : goal.solve_plan-requires
solve_plan-requires c = (record { bytes = c.args.plan.now; read = sym c.in_ok-read.ensures }, c.requires.0, c.requires.1)

pub returns-clause-does : goal.returns-clause-does
returns-clause-does c =
    let call = c.solve_plan in
    subst (λ (a : PlanAnswer). Does (solve_plan a) c.args.out.now call.new.out call.result) c.in_ok-read.ensures call.ensures.does
