-- What the solver writes.
use Rattle.std.specs.Prelude.{◌≡◌, ℕ, ◌*◌, ◌<◌, ◌≤◌, cond, ◌&&◌, List, map, leb, ℤ, pos, ◌-ℤ◌, length, get_or, ◌≤ℤ◌}
use Rattle.std.proofs.Math.Option.{some}
use Rattle.model.specs.Limits.{work_room, certificate_room}
use Rattle.model.specs.Refusals.{too_many_nodes, short_memory}
use Rattle.model.specs.Plan.{Plan, PlanAnswer, faulty, sound, read_plan}
use Rattle.model.specs.Graph.{Node, Edge, start, nodes, too_large}
use Rattle.model.specs.Walk.{Walk, kept, ideal}
use Rattle.model.specs.Certificate.{Certificate, certificate_bytes, read_certificate}
use Rattle.model.specs.Check.{verdict, share, allowance, potential_at}
use Rattle.model.specs.Passes.{PassesTo, beginning}

-- "the .. sum of q × policy gain − p × clairvoyant gain" over a walk
abbrev pub cost : ℕ → ℕ → List Edge → ℤ
cost p q es = pos (q * kept es) -ℤ pos (p * ideal es)

-- "the smallest sum .. over walks from the start node to v"
pub record Smallest (P : Plan) (p q : ℕ) (v : Node) (z : ℤ) : Type 0 where
  pub reached : (es : List Edge) × Walk P start v es × (cost p q es ≡ z)
  pub least : (es : List Edge) → Walk P start v es → z ≤ℤ cost p q es

-- A certificate that the solver may write for the plan, and "the number of passes for the fraction it writes": its bytes are read as it,
-- the checker accepts it, "the solver's potential at v is the smallest sum", and the passes find these potentials. Its cycle is free, but
-- that the checker accepts it.
pub record Solved (P : Plan) (c : Certificate) (k : ℕ) : Type 0 where
  pub form : read_certificate (certificate_bytes c) ≡ some c  -- "our solver writes a certificate"
  pub accepted : verdict P c ≡ share c.p c.q (length c.potentials) (allowance c.potentials)
  pub potentials : (i : ℕ) → i < length (nodes P) → Smallest P c.p c.q (get_or (nodes P) i start) (potential_at c.potentials i)
  pub passes : PassesTo P c.p c.q (beginning (length (nodes P))) (map some c.potentials) k  -- they find the potentials
  pub few : k ≤ length (nodes P)  -- "at most N"

-- what is due: a refusal, or a certificate and a number of passes that are `Solved` of this plan
pub data SolveAnswer : Type 0 where
  refused : ℕ → SolveAnswer
  solvable : Plan → SolveAnswer

abbrev pub solve_plan : PlanAnswer → SolveAnswer
solve_plan (faulty n) = refused n
solve_plan (sound P) = cond (too_large P) (refused too_many_nodes) (solvable P)

-- for plan bytes, with so many bytes of work memory and of output lent: "11; the plan's first bad command ..; 5"
unfoldable pub solve : List ℕ → ℕ → ℕ → SolveAnswer
solve plan lent room =
    let answer = solve_plan (read_plan plan) in
    cond (leb work_room lent && leb certificate_room room) answer (refused short_memory)
