-- What is written for a certificate that is widened.
use Rattle.std.specs.Prelude.{Bool, List, ℕ}
use Rattle.records.specs.Begins.{Begins}
use Rattle.refusals.specs.Told.{Answer}
use Rattle.widen.specs.Promise.{Widens}

-- the widen call was lent this output and left it so, and r says whether it then begins with these bytes
pub record WidensAs (certificate bytes out out' : List ℕ) (r : Bool) : Type 0 where
  pub answer : Answer
  pub widens : Widens certificate out out' answer
  pub begins : Begins out' bytes r
