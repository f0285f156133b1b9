-- `exports::jovnetal_widen` meets its contract: the number of what the widen call told; bytes were written where it is small.
-- Assumes nothing.
use mathlib.Core.Path.{◌≡◌}
use mathlib.Core.List.{List}
use Prim.Native.Nat.{ℕ}
use lib.ListN.{take}
use Rattle.model.specs.PlanBytes.{plan_bytes}
use Rattle.model.specs.Convert.{CertificateCarried}
use Rattle.refusals.specs.Told.{Answer, result_by}
use Rattle.widen.specs.Promise.{Widens}
use Rattle.exports.specs.Codes.{code_of, WidenedAs}
use Rattle.exports.proofs.Codes.{by_number, tells_as}
use Rattle.exports.proofs.jovnetal_widen.Goals as goal

widened-as : (certificate out out' : List ℕ) (a : Answer) (r : ℕ) → Widens certificate out out' a → r ≡ code_of (result_by a) → WidenedAs certificate out out' r
widened-as certificate out out' a r w e = record {
  tells = tells_as w.told e;
  carried = λ P i c read. by_number (λ k. CertificateCarried P c (plan_bytes P) (take k out')) a e (w.carried P i c read);
}

pub returns : goal.returns
returns c = widened-as _ _ _ _ _ c.widen.ensures c.code.ensures
