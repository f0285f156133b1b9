-- What is written for a plan by the solver: whether its certificate begins with a head, and the line of its passes.
use Rattle.std.specs.Prelude.{Bool, List, ℕ, length, take}
use Rattle.model.specs.Limits.{work_room, certificate_room}
use Rattle.model.specs.Solve.{solve}
use Rattle.solver.specs.Promise.{Answer, Solves}
use Rattle.records.specs.Begins.{Begins}
use Rattle.solve_text.specs.Bytes.{in_bytes, in_passes, Puts}

-- r says whether what is due for the plan begins with the head; of a certificate the cycle is free
pub record Compared (plan head : List ℕ) (r : Bool) : Type 0 where
  pub before : List ℕ
  pub after : List ℕ
  pub size : ℕ
  pub written : Puts in_bytes (solve plan work_room certificate_room) before after size
  pub begins : Begins (take size after) head r

-- so many bytes have the line that is due for the plan, of its number of passes or of its refusal
pub record PassesLine (plan : List ℕ) (n : ℕ) : Type 0 where
  pub before : List ℕ
  pub after : List ℕ
  pub written : Puts in_passes (solve plan work_room certificate_room) before after n

-- the solve call was lent this work memory and this output, and left them so; what it tells has its line; and r says whether the output then
-- begins with the head
pub record Called (plan head work work' out out' : List ℕ) (r : Bool) : Type 0 where
  pub answer : Answer
  pub solves : Solves plan work work' out out' answer
  pub before : List ℕ
  pub after : List ℕ
  pub size : ℕ
  pub written : Puts in_passes (solve plan (length work) (length out)) before after size
  pub begins : Begins out' head r
