-- `exports::jovnetal_combine` meets its contract: the number of what the combine call told; bytes were written where it is small.
-- Assumes nothing.
use mathlib.Core.Path.{◌≡◌}
use mathlib.Core.List.{List}
use Prim.Native.Nat.{ℕ}
use native.Mathlib.Omega.{arith}
use lib.ListN.{length, take}
use Rattle.model.specs.Combine.{AdmitsBoth}
use Rattle.model.specs.Refusals.{too_many_pairs}
use Rattle.theory.proofs.Combined.{combine-fits, combine-many}
use Rattle.refusals.specs.Told.{Answer, result_by}
use Rattle.combine.specs.Promise.{Combines}
use Rattle.exports.specs.Codes.{code_of, CombinesAs}
use Rattle.exports.proofs.Codes.{by_number, tells_as, due_by_number}
use Rattle.exports.proofs.jovnetal_combine.Goals as goal

combines-as : (first second out out' : List ℕ) (a : Answer) (r : ℕ) → Combines first second out out' a → r ≡ code_of (result_by a) →
    CombinesAs first second out out' r
combines-as first second out out' a r w e = record {
  tells = tells_as w.told e;
  admitted = λ P Q p q. by_number (λ k. AdmitsBoth P Q (take k out')) a e (w.admitted P Q p q);
  many = λ P Q p q k.
      combine-many first second (length out) P Q p q
      (due_by_number a too_many_pairs (λ R d. omega (arith, combine-fits first second (length out) P Q p q R d)) w.told e k);
}

pub returns : goal.returns
returns c = combines-as _ _ _ _ _ _ c.rewrite.ensures c.code.ensures
