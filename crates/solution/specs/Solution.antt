-- The smallest fraction of a plan: no cycle costs less than 0 at it, and one costs just 0.
use Rattle.std.specs.Prelude.{◌≡◌, true, List, ℕ, ◌*◌, ◌<◌, ◌≤◌}
use Rattle.model.specs.Check.{fraction_ok}
use Rattle.model.specs.Graph.{Edge}
use Rattle.model.specs.Passes.{beginning}
use Rattle.model.specs.Plan.{Plan}
use Rattle.model.specs.Walk.{kept, ideal}
use Rattle.theory.specs.Search.{Quiet}
use Rattle.theory.specs.Lightest.{Along}
use Rattle.policy.specs.View.{tasks_in}
use Rattle.policy.specs.declared.Rules.{Rules}
use Rattle.graph.specs.View.{Planned}
use Rattle.discovery.specs.Discovery.{Holds}
use Rattle.potentials.specs.declared.Claim.{Claim}
use Rattle.links.specs.Links.{taken_in, state_in, first_steps}
use Rattle.distances.specs.Distances.{known_distances, PassesAt, SearchIn, Turned}
use Rattle.fraction.specs.declared.Fraction.{Fraction}
use Rattle.solution.specs.declared.Solution.{Solution}

-- the fraction of a solution, for n nodes
abbrev pub claim_of : Solution → ℕ → Claim
claim_of s n = record { fraction = s.fraction; n = n }

-- the first k steps are a cycle of best edges whose gains are in the ratio p/q, the clairvoyant's above 0
pub record Tight (P : Plan) (n : ℕ) (m : List ℕ) (p q k : ℕ) : Type 0 where
  pub node : ℕ
  pub below : node < n
  pub nodes : (i : ℕ) → i < k → (taken_in m i).node < n
  pub edges : List Edge
  pub along : Along P node (first_steps m k) node edges
  pub few : k ≤ n
  pub some : 0 < ideal edges
  pub exact : p * ideal edges ≡ q * kept edges

-- n rows hold the plan's nodes, and the first k steps are a cycle of best edges that costs less than 0 at the fraction of a claim
pub record Circling (P : Plan) (r : Rules) (next m : List ℕ) (claim : Claim) (k : ℕ) : Type 0 where
  pub planned : Planned P r next
  pub holds : Holds P (tasks_in r) m claim.n
  pub turned : Turned P claim m k

-- there is such a plan
pub record Circled (r : Rules) (m : List ℕ) (k : ℕ) : Type 0 where
  pub plan : Plan
  pub next : List ℕ
  pub claim : Claim
  pub circling : Circling plan r next m claim k

-- a smaller fraction, in lowest terms, that such a cycle attains
pub record Lowers (P : Plan) (claim : Claim) (m : List ℕ) (k : ℕ) (f : Fraction) : Type 0 where
  pub fraction : fraction_ok f.p f.q ≡ true
  pub some : 0 < f.q
  pub less : claim.fraction.q * f.p < claim.fraction.p * f.q
  pub tight : Tight P claim.n m f.p f.q k

-- n rows hold the plan's nodes, the search at this fraction is at rest after these passes, and for q > 0 such a cycle stands in the steps, for 1/0 none
pub record Solving (P : Plan) (r : Rules) (next m : List ℕ) (n : ℕ) (s : Solution) : Type 0 where
  pub planned : Planned P r next
  pub holds : Holds P (tasks_in r) m n
  pub fraction : fraction_ok s.fraction.p s.fraction.q ≡ true
  pub search : SearchIn P (claim_of s n) m
  pub quiet : Quiet n (state_in m)
  pub passed : PassesAt P (claim_of s n) (beginning n) (known_distances (claim_of s n) m) s.passes
  pub cycle : 0 < s.fraction.q → Tight P n m s.fraction.p s.fraction.q s.steps
  pub bare : s.fraction.q ≡ 0 → s.steps ≡ 0

-- there is such a plan
pub record Solvable (r : Rules) (next m : List ℕ) (n : ℕ) (s : Solution) : Type 0 where
  pub plan : Plan
  pub solving : Solving plan r next m n s
