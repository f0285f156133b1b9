-- `controller::set_up` meets its contract: the plan's fault, or its part.
-- Assumes nothing.
use Rattle.std.proofs.Common.{sym}
use Rattle.std.proofs.lemmas.Result.{err_from_is_err_and}
use Rattle.plan.specs.View.{plan_of}
use Rattle.controller.proofs.set_up.Goals as goal

pub returns-in_err-found : goal.returns-in_err-found
returns-in_err-found c =
    let p = err_from_is_err_and c.from_residual.result c.from_residual.ensures.1 in
    rw (p.1, p.2) (sym c.in_err-found.ensures)

pub part_of-requires : goal.part_of-requires
part_of-requires c = record { bytes = c.args.plan.now; read = sym c.in_ok-found.ensures }

pub returns : goal.returns
returns c = (plan_of c.in_ok-found.found, sym c.in_ok-found.ensures, c.part_of.ensures)
