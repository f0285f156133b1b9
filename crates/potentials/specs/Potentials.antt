-- The potentials of a certificate, tested against every edge of the graph.
use Rattle.std.specs.Prelude.{◌≡◌, Bool, true, List, ℕ, ◌+◌, ◌-◌, ◌*◌, ◌^◌, ◌<◌, ◌≤◌, ℤ, pos, nat_abs, ◌-ℤ◌, length, get_or}
use Rattle.std.proofs.Math.Option.{some}
use Rattle.std.specs.Int.Signed.{le_z}
use Rattle.model.specs.Certificate.{Certificate, read_certificate}
use Rattle.model.specs.Check.{potential_at, within_limit}
use Rattle.model.specs.Limits.{max_p, max_q, max_potential}
use Rattle.model.specs.Lists.{all}
use Rattle.model.specs.Plan.{Plan}
use Rattle.certificate.specs.View.{HasPotential}
use Rattle.policy.specs.View.{cell_count, tasks_in}
use Rattle.policy.specs.declared.Rules.{Rules}
use Rattle.graph.specs.Outcomes.{pattern_in, notes_in}
use Rattle.graph.specs.Label.{Readable}
use Rattle.graph.specs.View.{Planned}
use Rattle.node.specs.declared.Node.{Node}
use Rattle.store.specs.Store.{row_at, rows_in, index_in, Distinct, Indexed}
use Rattle.discovery.specs.Discovery.{row_of, node_in, Holds}
use Rattle.potentials.specs.declared.Claim.{Claim}

-- a certificate's potentials, one for each of the plan's nodes in the store, with its fraction
pub record Test (P : Plan) (c : Certificate) (r : Rules) (next m s : List ℕ) (claim : Claim) : Type 0 where
  pub planned : Planned P r next
  pub holds : Holds P (tasks_in r) m claim.n
  pub read : read_certificate s ≡ some c
  pub count : length c.potentials ≡ claim.n
  pub is_p : c.p ≡ claim.fraction.p
  pub is_q : c.q ≡ claim.fraction.q
  pub fits_p : claim.fraction.p ≤ max_p
  pub fits_q : claim.fraction.q ≤ max_q
  pub within : all within_limit c.potentials ≡ true

-- there is such a plan and certificate
pub record Testing (r : Rules) (next m s : List ℕ) (claim : Claim) : Type 0 where
  pub plan : Plan
  pub certificate : Certificate
  pub test : Test plan certificate r next m s claim

-- ---- one node

-- its potential: that of its row's number among the first n rows
abbrev pub potential_of : List ℤ → List ℕ → ℕ → Node → ℤ
potential_of zs m n v = potential_at zs (index_in (rows_in m n) (row_of v))

-- its row is among them, and that potential can be read
pub record Findable (s m : List ℕ) (n : ℕ) (v : Node) : Type 0 where
  pub index : Indexed m n
  pub distinct : Distinct (rows_in m n)
  pub size : length v.cells ≡ cell_count
  pub there : index_in (rows_in m n) (row_of v) < n
  pub potential : HasPotential s (index_in (rows_in m n) (row_of v))

-- the node in the row u
pub record Numbered (m : List ℕ) (n u : ℕ) (v : Node) : Type 0 where
  pub below : u < n
  pub row : v ≡ node_in (row_at m u)

-- ---- the noted outcomes of a label

-- the node of a pattern
abbrev pub with_pattern : List ℕ → ℕ → ℕ → Node
with_pattern cells state p = record { cells = cells; taken = p; state = state }

-- the score noted for a pattern, and the gain
abbrev pub score_in : List ℕ → ℕ → ℕ → ℕ
score_in notes count p = get_or (notes_in notes count).scores p 0

abbrev pub gain_in : List ℕ → ℕ → ℕ → ℕ
gain_in notes count p = score_in notes count p - 1

-- the inequality on the outcome noted for a pattern: high is the potential of the edges' node with the policy's weight
abbrev pub pattern_ok : Claim → List ℤ → List ℕ → ℕ → List ℕ → List ℕ → ℕ → ℤ → ℕ → Bool
pattern_ok claim zs notes count m cells state high p =
    le_z (potential_of zs m claim.n (with_pattern cells state p)) (high -ℤ pos (claim.fraction.p * gain_in notes count p))

-- what a gain at a price is at most, and a potential with one
abbrev pub max_charge : ℕ
max_charge = max_q * 2 ^ 32

abbrev pub max_high : ℕ
max_high = max_potential + max_charge

-- the outcomes can be tested
pub record Charged (claim : Claim) (s notes m : List ℕ) (count : ℕ) (cells : List ℕ) (state : ℕ) (high : ℤ) : Type 0 where
  pub readable : Readable notes count
  pub fits_p : claim.fraction.p ≤ max_p
  pub fits_high : nat_abs high ≤ max_high
  pub noted : (k : ℕ) → k < count → 0 < score_in notes count (pattern_in notes k)
  pub found : (k : ℕ) → k < count → Findable s m claim.n (with_pattern cells state (pattern_in notes k))
