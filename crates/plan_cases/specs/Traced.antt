-- What is written for a case of the trace call.
use Rattle.std.specs.Prelude.{Bool, List, ℕ}
use Rattle.records.specs.Begins.{Begins}
use Rattle.refusals.specs.Told.{Answer}
use Rattle.tracer.specs.Promise.{Traces}

-- the trace call was lent this output and left it so, and r says whether it then begins with these bytes
pub record TracedAs (plan labels bytes out out' : List ℕ) (r : Bool) : Type 0 where
  pub answer : Answer
  pub traces : Traces plan labels out out' answer
  pub begins : Begins out' bytes r
