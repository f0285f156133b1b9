-- `exports::jovnetal_back` meets its contract: the number of what the back call told; bytes were written where it is small.
-- Assumes nothing.
use mathlib.Core.Path.{◌≡◌, ap, ◌∙◌}
use mathlib.Core.List.{List}
use Prim.Native.Nat.{ℕ}
use native.Mathlib.Omega.{arith}
use lib.ListN.{length}
use Rattle.model.specs.Refusals.{not_in_first}
use Rattle.theory.proofs.Converted.{back-unsaid, back_fits}
use Rattle.refusals.specs.Told.{Answer, result_by}
use Rattle.convert.specs.Promise.{SendsBack}
use Rattle.exports.specs.Codes.{code_of, BackAs}
use Rattle.exports.proofs.Codes.{due_by_number, converts_as}
use Rattle.exports.proofs.jovnetal_back.Goals as goal

back_as : (plan out out' : List ℕ) (a : Answer) (r : ℕ) → SendsBack plan out out' a → r ≡ code_of (result_by a) → BackAs plan out out' r
back_as plan out out' a r w e = record {
  converts = converts_as a w.converts e;
  unsaid = (
    λ k. (back-unsaid plan (length out)).0 (due_by_number a not_in_first (λ P d. omega (arith, back_fits plan (length out) P d)) w.converts.told e k),
    λ u. e ∙ ap code_of (w.unsaid.1 u),
  );
}

pub returns : goal.returns
returns c = back_as _ _ _ _ _ c.back.ensures c.code.ensures
