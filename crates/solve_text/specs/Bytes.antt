-- The bytes that are written for a plan.
use Rattle.std.specs.Prelude.{List, ℕ}
use Rattle.model.specs.Certificate.{Certificate, certificate_bytes}
use Rattle.model.specs.Plan.{Plan}
use Rattle.model.specs.Solve.{Solved, SolveAnswer, refused, solvable}
use Rattle.model.specs.Text.{number_line, refused_line}
use Rattle.model.specs.Bytes.{Put}

-- a certificate and the number of its passes in bytes: the certificate's own, or the line of the number
abbrev pub in_bytes : Certificate → ℕ → List ℕ
in_bytes c k = certificate_bytes c

abbrev pub in_passes : Certificate → ℕ → List ℕ
in_passes c k = number_line k

-- of a certificate of the plan, and its passes
pub record PutsSolved (spell : Certificate → ℕ → List ℕ) (P : Plan) (before after : List ℕ) (r : ℕ) : Type 0 where
  pub certificate : Certificate
  pub passes : ℕ
  pub solved : Solved P certificate passes
  pub put : Put before after 0 (spell certificate passes) r

-- what is due: the line of a refusal, or the bytes of a certificate and its passes
abbrev pub Puts : (Certificate → ℕ → List ℕ) → SolveAnswer → List ℕ → List ℕ → ℕ → Type 0
Puts spell (refused n) before after r = Put before after 0 (refused_line n) r
Puts spell (solvable P) before after r = PutsSolved spell P before after r
