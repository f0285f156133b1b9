-- A certificate written from what the solver has found in lent memory.
use Rattle.std.specs.Prelude.{◌≡◌, List, ◌∷◌, ◌++◌, map, ℕ, ℤ, length}
use Rattle.model.specs.Bytes.{bytes, complement, overwrite}
use Rattle.model.specs.Certificate.{Certificate, certificate_bytes}
use Rattle.model.specs.Graph.{Edge}
use Rattle.model.specs.Lists.{flat_map}
use Rattle.model.specs.Plan.{Plan}
use Rattle.model.specs.Solve.{Solved}
use Rattle.theory.specs.Lightest.{Along, step_of}
use Rattle.theory.specs.Search.{distances}
use Rattle.certificate.specs.View.{potential_command, potential_width}
use Rattle.certificate_bytes.specs.Pieces.{node_bytes}
use Rattle.policy.specs.declared.Rules.{Rules}
use Rattle.links.specs.Links.{state_in, first_steps}
use Rattle.circuit.specs.Circuit.{steps_bytes}
use Rattle.solution.specs.declared.Solution.{Solution}
use Rattle.solution.specs.Solution.{Solvable}

-- ---- the potentials

-- the distances of the first n nodes
abbrev pub distances_in : List ℕ → ℕ → List ℤ
distances_in m n = distances n (state_in m)

-- `12` potential for each
abbrev pub potentials_bytes : List ℤ → List ℕ
potentials_bytes zs = flat_map (λ z. potential_command ∷ bytes potential_width (complement z)) zs

-- ---- the cycle

-- the node v and best edges along the first k steps are written from a place on
pub record WritesCycle (P : Plan) (m : List ℕ) (k v : ℕ) (before : List ℕ) (at : ℕ) (after : List ℕ) : Type 0 where
  pub edges : List Edge
  pub along : Along P v (first_steps m k) v edges
  pub bytes : after ≡ overwrite before at (node_bytes v ++ steps_bytes (map step_of edges))

-- ---- the certificate

-- there is a table of next states, and a plan that it is the solution for
pub record Writable (r : Rules) (m : List ℕ) (n : ℕ) (s : Solution) : Type 0 where
  pub next : List ℕ
  pub solvable : Solvable r next m n s

-- a certificate that the solver may write for the plan after so many passes is written, in so many bytes
pub record Written (P : Plan) (passes : ℕ) (before after : List ℕ) (count : ℕ) : Type 0 where
  pub certificate : Certificate
  pub solved : Solved P certificate passes
  pub bytes : after ≡ overwrite before 0 (certificate_bytes certificate)
  pub size : count ≡ length (certificate_bytes certificate)
