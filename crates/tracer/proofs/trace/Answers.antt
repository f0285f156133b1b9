-- `tracer::trace` meets its contract: short output first, then the plan's faults, then the labels.
-- Assumes nothing.
use Rattle.std.proofs.Common.{sym, arith}
use Rattle.std.proofs.lemmas.Result.{err_from_is_err_and}
use Rattle.refusals.proofs.Told.{told_by, told-refusal}
use Rattle.tracer.proofs.Answers.{traces, short, by_plan}
use Rattle.tracer.proofs.trace.Goals as goal

pub returns-then-out-lt-TRACE_ROOM : goal.returns-then-out-lt-TRACE_ROOM
returns-then-out-lt-TRACE_ROOM c = traces (told-refusal _ _ _ _ (short _ _ _ c.if-out-lt-TRACE_ROOM.true))

pub trace_plan-requires : goal.trace_plan-requires
trace_plan-requires c = (record { bytes = c.args.plan.now; read = sym c.in_ok-found.ensures }, omega (arith, c.if-out-lt-TRACE_ROOM.false))

pub returns-in_err-found : goal.returns-in_err-found
returns-in_err-found c =
    let p = err_from_is_err_and c.from_residual.result c.from_residual.ensures.1 in
    rw (p.1, p.2) (traces (told-refusal _ _ _ _ (by_plan _ _ _ _ c.if-out-lt-TRACE_ROOM.false (sym c.in_err-found.ensures))))

pub returns : goal.returns
returns c = traces (told_by (by_plan _ _ _ _ c.if-out-lt-TRACE_ROOM.false (sym c.in_ok-found.ensures)) c.trace_plan.ensures)
