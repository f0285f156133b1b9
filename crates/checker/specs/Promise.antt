-- What the check call promises.
use Rattle.std.specs.Prelude as rust
use Rattle.std.specs.Prelude.{◌≡◌, List, ℕ, leb, length, Ok, Err}
use Rattle.model.specs.Bytes.{work_after}
use Rattle.model.specs.Check.{CheckAnswer, check}
use Rattle.model.specs.Limits.{work_room}
use Rattle.model.specs.Plan as model
use Rattle.model.specs.Share.{KeptShare}
use Rattle.refusals.specs.Numbers.{refusal_number}
use Rattle.refusals.specs.declared.Refusal.{Refusal}
use Rattle.checker.specs.declared.Share.{Share}

-- what the check answers: what is so of an accepted certificate, or the refusal
abbrev pub Answer : Type 0
Answer = rust.Result Share Refusal

abbrev pub answer_of : Answer → CheckAnswer
answer_of (Err r) = CheckAnswer.refused (refusal_number r)
answer_of (Ok a) = CheckAnswer.share a.fraction.p a.fraction.q a.n a.k

-- for all plan and certificate bytes and work memory
pub record Checks (plan certificate before after : List ℕ) (r : Answer) : Type 0 where
  pub answer : answer_of r ≡ check plan certificate (length before)
  -- demand 3, of every fraction that is answered
  pub claim : (P : model.Plan) → model.read_plan plan ≡ model.sound P → (p q n k : ℕ) → answer_of r ≡ CheckAnswer.share p q n k → KeptShare P p q k
  pub memory : after ≡ work_after (leb work_room (length before)) before
