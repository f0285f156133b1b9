-- `exports::jovnetal_forth` meets its contract: the number of what the forth call told; bytes were written where it is small.
-- Assumes nothing.
use mathlib.Core.Path.{◌≡◌}
use mathlib.Core.List.{List}
use Prim.Native.Nat.{ℕ}
use lib.ListN.{take}
use Rattle.model.specs.Convert.{CarriesOver}
use Rattle.refusals.specs.Told.{Answer, result_by}
use Rattle.convert.specs.Promise.{SendsForth}
use Rattle.exports.specs.Codes.{code_of, ForthAs}
use Rattle.exports.proofs.Codes.{by_number, converts_as}
use Rattle.exports.proofs.jovnetal_forth.Goals as goal

forth-as : (plan out out' : List ℕ) (a : Answer) (r : ℕ) → SendsForth plan out out' a → r ≡ code_of (result_by a) → ForthAs plan out out' r
forth-as plan out out' a r w e = record {
  converts = converts_as a w.converts e;
  carries = λ P read. by_number (λ k. CarriesOver P (take k out')) a e (w.carries P read);
}

pub returns : goal.returns
returns c = forth-as _ _ _ _ _ c.forth.ensures c.code.ensures
