-- A cycle of steps in lent memory: its best edges, their gains, and its steps in a certificate.
use Rattle.std.specs.Prelude.{◌≡◌, cond, List, map, ℕ, ◌+◌, ◌<◌, ◌≤◌, eqb, length}
use Rattle.model.specs.Bytes.{overwrite}
use Rattle.model.specs.Certificate.{Step, step_bytes}
use Rattle.model.specs.Check.{padded}
use Rattle.model.specs.Graph.{Edge}
use Rattle.model.specs.Limits.{max_steps}
use Rattle.model.specs.Edition.{long_reads}
use Rattle.model.specs.Lists.{flat_map}
use Rattle.model.specs.Plan.{Plan}
use Rattle.words.specs.Packed.{unpacked}
use Rattle.theory.specs.Lightest.{Best, Along, step_of}
use Rattle.policy.specs.View.{tasks_in}
use Rattle.policy.specs.declared.Rules.{Rules}
use Rattle.graph.specs.View.{Planned}
use Rattle.discovery.specs.Discovery.{Holds}
use Rattle.links.specs.Links.{links_end, taken_in, first_steps}
use Rattle.circuit.specs.declared.BestEdge.{BestEdge}

-- ---- one step

-- n rows hold the plan's nodes, and the label l has a best edge from the node u to the node v
pub record Linked (P : Plan) (r : Rules) (next m : List ℕ) (n u l v : ℕ) (e : Edge) : Type 0 where
  pub planned : Planned P r next
  pub holds : Holds P (tasks_in r) m n
  pub from : u < n
  pub to : v < n
  pub best : Best P u l v e

-- there is a plan for which it is so
pub record Linking (r : Rules) (m : List ℕ) (u l v : ℕ) : Type 0 where
  pub plan : Plan
  pub next : List ℕ
  pub count : ℕ
  pub edge : Edge
  pub linked : Linked plan r next m count u l v edge

-- the struct stands for a best edge of the label l from the node u to the node v
pub record StandsFor (P : Plan) (u l v : ℕ) (b : BestEdge) : Type 0 where
  pub edge : Edge
  pub best : Best P u l v edge
  pub label : edge.label ≡ b.label
  pub kept : edge.kept ≡ b.kept
  pub ideal : edge.ideal ≡ b.ideal
  pub masks : padded edge.masks ≡ unpacked b.masks

-- ---- the steps

-- the node after the step i of k: the next step's, and after the last one the first step's
abbrev pub node_after : List ℕ → ℕ → ℕ → ℕ
node_after m k i = cond (eqb (i + 1) k) (taken_in m 0).node (taken_in m (i + 1)).node

-- n rows hold the plan's nodes, and its best edges es lead along the first k steps, from the node v back to it
pub record Turns (P : Plan) (r : Rules) (next m : List ℕ) (n k v : ℕ) (es : List Edge) : Type 0 where
  pub planned : Planned P r next
  pub holds : Holds P (tasks_in r) m n
  pub below : (i : ℕ) → i < k → (taken_in m i).node < n
  pub along : Along P v (first_steps m k) v es

-- there is a plan for which it is so
pub record Turning (r : Rules) (m : List ℕ) (k : ℕ) : Type 0 where
  pub room : links_end ≤ length m
  pub few : k ≤ max_steps
  pub plan : Plan
  pub next : List ℕ
  pub count : ℕ
  pub node : ℕ
  pub edges : List Edge
  pub turns : Turns plan r next m count k node edges

-- the bytes of steps, one after another
abbrev pub steps_bytes : List Step → List ℕ
steps_bytes ss = flat_map (step_bytes long_reads) ss

-- best edges along the first k steps are written from a place on
pub record Writes (P : Plan) (m : List ℕ) (k v : ℕ) (before : List ℕ) (at : ℕ) (after : List ℕ) : Type 0 where
  pub edges : List Edge
  pub along : Along P v (first_steps m k) v edges
  pub bytes : after ≡ overwrite before at (steps_bytes (map step_of edges))
