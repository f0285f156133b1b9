-- `exports::jovnetal_trace` meets its contract: the number of what the trace told; bytes were written where it is small.
-- Assumes nothing.
use mathlib.Core.Path.{◌≡◌}
use mathlib.Core.List.{List}
use Prim.Native.Nat.{ℕ}
use Rattle.model.specs.Interrupted.{TellsCuts, cut_in}
use Rattle.refusals.specs.Told.{Answer, result_by}
use Rattle.tracer.specs.Promise.{Traces}
use Rattle.exports.specs.Codes.{code_of, TracesAs}
use Rattle.exports.proofs.Codes.{by_number, tells_as}
use Rattle.exports.proofs.jovnetal_trace.Goals as goal

traces-as : (plan labels out out' : List ℕ) (a : Answer) (r : ℕ) → Traces plan labels out out' a → r ≡ code_of (result_by a) → TracesAs plan labels out out' r
traces-as plan labels out out' a r w e = record {
  tells = tells_as w.told e;
  cuts = λ P read. by_number (λ _. TellsCuts P labels (cut_in out')) a e (w.cuts P read);
}

pub returns : goal.returns
returns c = traces-as _ _ _ _ _ _ c.trace.ensures c.code.ensures
