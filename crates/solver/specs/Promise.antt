-- What the solve call promises.
use Rattle.std.specs.Prelude as rust
use Rattle.std.specs.Prelude.{◌≡◌, ◌&&◌, List, ℕ, ◌≤◌, leb, length, take, Ok, Err}
use Rattle.std.proofs.Math.Option.{Option, none, some}
use Rattle.model.specs.Bytes.{overwrite, work_after}
use Rattle.model.specs.Certificate.{Certificate, certificate_bytes}
use Rattle.model.specs.Check.{share, check}
use Rattle.model.specs.Graph.{nodes}
use Rattle.model.specs.Limits.{work_room, certificate_room}
use Rattle.model.specs.Plan as model
use Rattle.model.specs.Share.{KeptShare}
use Rattle.model.specs.Solve as solve_model
use Rattle.model.specs.Solve.{SolveAnswer, refused, solvable, solve}
use Rattle.refusals.specs.Numbers.{refusal_number}
use Rattle.refusals.specs.declared.Refusal.{Refusal}
use Rattle.solver.specs.declared.Solved.{Solved}

-- what the call answers: how many bytes it wrote and after how many passes, or why it wrote none
abbrev pub Answer : Type 0
Answer = rust.Result Solved Refusal

-- the number of a refusal
abbrev pub refused_by : Answer → Option ℕ
refused_by (Err r) = some (refusal_number r)
refused_by (Ok s) = none

-- "A refusal gives its number, and the output bytes keep what they had"
pub record Refuses (n : ℕ) (before after : List ℕ) (r : Answer) : Type 0 where
  pub number : refused_by r ≡ some n
  pub kept : after ≡ before

-- a certificate of the plan is written, and no byte past its last, and its bytes and its passes are told
pub record Writes (P : model.Plan) (before after : List ℕ) (r : Answer) : Type 0 where
  pub certificate : Certificate
  pub passes : ℕ
  pub solved : solve_model.Solved P certificate passes
  pub answer : r ≡ Ok (record { bytes = length (certificate_bytes certificate); passes = passes })
  pub bytes : after ≡ overwrite before 0 (certificate_bytes certificate)

-- what is due is done
abbrev pub Does : SolveAnswer → List ℕ → List ℕ → Answer → Type 0
Does (refused n) before after r = Refuses n before after r
Does (solvable P) before after r = Writes P before after r

-- the checker accepts what is written, with as much work memory as it needs, and the claim of demand 3 holds
pub record Certifies (plan : List ℕ) (P : model.Plan) (n : ℕ) (after : List ℕ) : Type 0 where
  pub p : ℕ
  pub q : ℕ
  pub k : ℕ
  pub accepted : (lent : ℕ) → work_room ≤ lent → check plan (take n after) lent ≡ share p q (length (nodes P)) k
  pub claim : KeptShare P p q k

-- for all plan bytes, work memory and output
pub record Solves (plan work work' out out' : List ℕ) (r : Answer) : Type 0 where
  pub due : Does (solve plan (length work) (length out)) out out' r
  pub certifies : (P : model.Plan) → model.read_plan plan ≡ model.sound P → (s : Solved) → r ≡ Ok s → Certifies plan P s.bytes out'
  pub memory : work' ≡ work_after (leb work_room (length work) && leb certificate_room (length out)) work
