-- The lightest edges between numbered nodes: the links of the search for distances.
use Rattle.std.specs.Prelude.{◌≡◌, ℕ, ◌*◌, ◌<◌, ◌≤◌, ℤ, length, get_or}
use mathlib.Core.List.{List, [], ◌∷◌, Memᴰ}
use Rattle.model.specs.Certificate.{Step}
use Rattle.model.specs.Check.{weight, padded}
use Rattle.model.specs.Graph.{Node, Edge, start, nodes, edges_at}
use Rattle.model.specs.Limits.{max_q, max_value}
use Rattle.model.specs.Plan.{Plan}
use Rattle.model.specs.Walk.{kept, ideal}
use Rattle.theory.specs.Search.{Taken}

-- the node with a number
abbrev pub node_at : Plan → ℕ → Node
node_at P u = get_or (nodes P) u start

-- an edge of the label l from the node u to the node v: none of these gains the clairvoyant more
pub record Best (P : Plan) (u l v : ℕ) (e : Edge) : Type 0 where
  pub edge : Memᴰ e (edges_at P (node_at P u) l)
  pub to : e.to ≡ node_at P v
  pub most : (f : Edge) → Memᴰ f (edges_at P (node_at P u) l) → f.to ≡ node_at P v → f.ideal ≤ e.ideal

-- the links of a search at the fraction p/q: such an edge, and its weight
pub record Lightest (P : Plan) (p q u l v : ℕ) (w : ℤ) : Type 0 where
  pub edge : Edge
  pub best : Best P u l v edge
  pub weighs : weight p q edge ≡ w

-- no weight is above this one, or below it with the other sign
abbrev pub max_weight : ℕ
max_weight = max_q * max_value

-- such edges for steps from the node u to the node v
pub data Along (P : Plan) : ℕ → List Taken → ℕ → List Edge → Type 0 where
  here : {u : ℕ} → Along P u [] u []
  go : {u l x v : ℕ} {ss : List Taken} {e : Edge} {es : List Edge} → Best P u l x e → Along P x ss v es →
      Along P u (record { node = u; label = l } ∷ ss) v (e ∷ es)

-- steps from the node v back to it, at most n of them, that cost less than 0 at the fraction p/q
pub record Circuit (P : Plan) (p q n v : ℕ) (ss : List Taken) : Type 0 where
  pub edges : List Edge
  pub along : Along P v ss v edges
  pub few : length ss ≤ n
  pub less : q * kept edges < p * ideal edges

-- the step of an edge in a certificate
abbrev pub step_of : Edge → Step
step_of e = record { label = e.label; masks = padded e.masks }
