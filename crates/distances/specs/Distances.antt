-- The search for the distances of a plan's nodes at a fraction, in lent memory.
use Rattle.std.specs.Prelude as rust
use Rattle.std.specs.Prelude.{◌≡◌, Bool, true, false, cond, IfOk, IfErr, OnOk, List, ℕ, ◌+◌, ◌*◌, ◌<◌, ◌≤◌, ℤ, pos, ◌+ℤ◌, ◌-ℤ◌, ltb, length, ◌≤ℤ◌}
use Rattle.model.specs.Check.{fraction_ok}
use Rattle.model.specs.Limits.{max_nodes, max_p, max_q}
use Rattle.model.specs.Passes.{Distances, beginning, relax_node, pass, PassesTo}
use Rattle.model.specs.Plan.{Plan}
use Rattle.theory.specs.Search.{distances_of, Search, Quiet, Progress, Within, Spread}
use Rattle.theory.specs.Lightest.{Lightest, max_weight, Circuit}
use Rattle.policy.specs.View.{tasks_in}
use Rattle.policy.specs.declared.Rules.{Rules}
use Rattle.graph.specs.Outcomes.{pattern_in}
use Rattle.graph.specs.Label.{Readable}
use Rattle.graph.specs.View.{Planned}
use Rattle.store.specs.Store.{rows_in, Distinct, Indexed}
use Rattle.discovery.specs.Discovery.{Holds}
use Rattle.potentials.specs.declared.Claim.{Claim}
use Rattle.potentials.specs.Potentials.{score_in, gain_in}
use Rattle.potentials.specs.Best.{place_of}
use Rattle.model.specs.Bytes.{Only}
use Rattle.links.specs.Links.{links_at, links_size, steps_size, links_end, taken_in, state_in, first_steps}
use Rattle.distances.specs.declared.Outcomes.{Outcomes}

-- a sound plan with its nodes in the store, and a fraction
pub record Priced (P : Plan) (r : Rules) (next m : List ℕ) (claim : Claim) : Type 0 where
  pub planned : Planned P r next
  pub holds : Holds P (tasks_in r) m claim.n
  pub fraction : fraction_ok claim.fraction.p claim.fraction.q ≡ true
  pub room : links_end ≤ length m

pub record Pricing (r : Rules) (next m : List ℕ) (claim : Claim) : Type 0 where
  pub plan : Plan
  pub priced : Priced plan r next m claim

-- the links at the fraction of a claim
abbrev pub LinkOf : Plan → Claim → ℕ → ℕ → ℕ → ℤ → Type 0
LinkOf P claim = Lightest P claim.fraction.p claim.fraction.q

-- the distances that are found, in memory
abbrev pub known_distances : Claim → List ℕ → Distances
known_distances claim m = distances_of claim.n (state_in m)

-- the passes at the fraction of a claim
abbrev pub PassesAt : Plan → Claim → Distances → Distances → ℕ → Type 0
PassesAt P claim = PassesTo P claim.fraction.p claim.fraction.q

-- what trying links of u leaves of the distances, in memory
abbrev pub SpreadIn : Plan → Claim → List ℕ → List ℕ → ℕ → Type 0
SpreadIn P claim before after u = Spread (LinkOf P claim) claim.n (state_in before) (state_in after) u

-- what holds between the turns, in memory
abbrev pub SearchIn : Plan → Claim → List ℕ → Type 0
SearchIn P claim m = Search (LinkOf P claim) claim.n max_weight (state_in m)

-- the plan whose nodes are in the store is searched at the fraction of a claim
pub record Sought (P : Plan) (r : Rules) (next m : List ℕ) (claim : Claim) : Type 0 where
  pub priced : Priced P r next m claim
  pub search : SearchIn P claim m

-- there is such a plan
pub record Seeking (r : Rules) (next m : List ℕ) (claim : Claim) : Type 0 where
  pub plan : Plan
  pub sought : Sought plan r next m claim

-- ---- what trying edges leaves

-- what trying edges answers: whether a distance has moved, or the steps of a circuit
abbrev pub Answer : Type 0
Answer = rust.Result Bool ℕ

-- the first k steps are a circuit that costs less than 0
pub record Turned (P : Plan) (claim : Claim) (m : List ℕ) (k : ℕ) : Type 0 where
  pub node : ℕ
  pub below : node < claim.n
  pub circuit : Circuit P claim.fraction.p claim.fraction.q claim.n node (first_steps m k)
  pub nodes : (i : ℕ) → i < k → (taken_in m i).node < claim.n

-- the search has come further, and every byte of no link is as it was; or a circuit stands in the steps, and every byte of neither is
pub record Advance (P : Plan) (claim : Claim) (before after : List ℕ) (t : Answer) : Type 0 where
  pub progress : IfOk t (λ moved. Progress (LinkOf P claim) claim.n max_weight (state_in before) (state_in after) moved)
  pub links : OnOk t (Only links_at links_size before after)
  pub circuit : IfErr t (λ k. (0 < k) × Turned P claim after k)
  pub only : Only links_at (links_size + steps_size) before after

-- v is known, at a distance of at most z
abbrev pub Reached : List ℕ → ℕ → ℤ → Type 0
Reached m v z = ((state_in m).known v ≡ true) × ((state_in m).dist v ≤ℤ z)

-- ---- one edge

-- the label l leads from u, which is known, to v: by it v is at the distance z
pub record Offer (P : Plan) (claim : Claim) (m : List ℕ) (u l v : ℕ) (z : ℤ) : Type 0 where
  pub few : claim.n ≤ max_nodes
  pub room : links_end ≤ length m
  pub within : Within (LinkOf P claim) claim.n max_weight
  pub search : SearchIn P claim m
  pub from : u < claim.n
  pub to : v < claim.n
  pub known : (state_in m).known u ≡ true
  pub weight : ℤ
  pub link : LinkOf P claim u l v weight
  pub distance : z ≡ (state_in m).dist u +ℤ weight

-- there is such a plan and claim
pub record Offered (m : List ℕ) (u l v : ℕ) (z : ℤ) : Type 0 where
  pub plan : Plan
  pub claim : Claim
  pub offer : Offer plan claim m u l v z

-- the search has come further, and then v is reached at z, and every node stands where it did or where a link of u leads it
pub record Relaxes (P : Plan) (claim : Claim) (u v : ℕ) (z : ℤ) (before after : List ℕ) (t : Answer) : Type 0 where
  pub advance : Advance P claim before after t
  pub reached : OnOk t (Reached after v z)
  pub spread : OnOk t (SpreadIn P claim before after u)

-- ---- the edges of a label

-- the weight of the edge of the k-th noted pattern, where the policy has gained `kept`
abbrev pub weight_of : Claim → ℕ → List ℕ → ℕ → ℕ → ℤ
weight_of claim kept notes count k = pos (claim.fraction.q * kept) -ℤ pos (claim.fraction.p * gain_in notes count (pattern_in notes k))

-- the number of that pattern's node, and its distance by that edge
abbrev pub target_of : Claim → List ℕ → List ℕ → Outcomes → ℕ → ℕ
target_of claim m notes out k = place_of m claim.n out.cells out.state (pattern_in notes k)

abbrev pub distance_by : Claim → List ℕ → List ℕ → Outcomes → ℕ → ℤ
distance_by claim m notes out k = (state_in m).dist out.number +ℤ weight_of claim out.kept notes out.count k

-- the distance of the node that the label leaves, with the policy's weight
abbrev pub high_of : Claim → List ℕ → Outcomes → ℤ
high_of claim m out = (state_in m).dist out.number +ℤ pos (claim.fraction.q * out.kept)

-- the noted patterns are where the label leads from the node, which is known
pub record Offers (P : Plan) (claim : Claim) (m notes : List ℕ) (out : Outcomes) : Type 0 where
  pub few : claim.n ≤ max_nodes
  pub room : links_end ≤ length m
  pub within : Within (LinkOf P claim) claim.n max_weight
  pub search : SearchIn P claim m
  pub index : Indexed m claim.n
  pub distinct : Distinct (rows_in m claim.n)
  pub from : out.number < claim.n
  pub known : (state_in m).known out.number ≡ true
  pub fits_p : claim.fraction.p ≤ max_p
  pub fits_q : claim.fraction.q ≤ max_q
  pub readable : Readable notes out.count
  pub noted : (k : ℕ) → k < out.count → 0 < score_in notes out.count (pattern_in notes k)
  pub below : (k : ℕ) → k < out.count → target_of claim m notes out k < claim.n
  pub link : (k : ℕ) → k < out.count → LinkOf P claim out.number out.label (target_of claim m notes out k) (weight_of claim out.kept notes out.count k)

pub record Offering (claim : Claim) (m notes : List ℕ) (out : Outcomes) : Type 0 where
  pub plan : Plan
  pub offers : Offers plan claim m notes out

-- what holds after the k-th is tried
abbrev pub RelaxesOne : Plan → Claim → Outcomes → ℕ → List ℕ → List ℕ → List ℕ → Answer → Type 0
RelaxesOne P claim out k notes before after t =
    Relaxes P claim out.number (target_of claim before notes out k) (distance_by claim before notes out k) before after t

-- the search has come further, and then each of the patterns' nodes is reached, and every node stands where it did or where a link leads it
pub record RelaxesAll (P : Plan) (claim : Claim) (out : Outcomes) (notes before after : List ℕ) (t : Answer) : Type 0 where
  pub advance : Advance P claim before after t
  pub reached : OnOk t ((k : ℕ) → k < out.count → Reached after (target_of claim before notes out k) (distance_by claim before notes out k))
  pub spread : OnOk t (SpreadIn P claim before after out.number)

-- every node that the label l leads to from u is reached
abbrev pub DoneBy : Plan → Claim → List ℕ → ℕ → ℕ → Type 0
DoneBy P claim m u l = (v : ℕ) (w : ℤ) → v < claim.n → LinkOf P claim u l v w → Reached m v ((state_in m).dist u +ℤ w)

-- the search has come further, and then the label is done, and every node stands where it did or where a link of u leads it
pub record RelaxesLabel (P : Plan) (claim : Claim) (u l : ℕ) (before after : List ℕ) (t : Answer) : Type 0 where
  pub advance : Advance P claim before after t
  pub done : OnOk t (DoneBy P claim after u l)
  pub spread : OnOk t (SpreadIn P claim before after u)

-- ---- nodes

-- the search has come further, and then all edges of u are taken, and u, without a move, no longer waits
pub record RelaxesNode (P : Plan) (claim : Claim) (u : ℕ) (before after : List ℕ) (t : Answer) : Type 0 where
  pub advance : Advance P claim before after t
  pub taken : OnOk t (relax_node P claim.fraction.p claim.fraction.q (known_distances claim before) u ≡ known_distances claim after)
  pub tried : IfOk t (λ moved. moved ≡ false → (state_in after).waiting u ≡ false)

-- the search has come further, and then by one pass, and, without a move, no node waits
pub record Passes (P : Plan) (claim : Claim) (before after : List ℕ) (t : Answer) : Type 0 where
  pub advance : Advance P claim before after t
  pub passed : OnOk t (pass P claim.fraction.p claim.fraction.q (known_distances claim before) ≡ known_distances claim after)
  pub quiet : IfOk t (λ moved. moved ≡ false → Quiet claim.n (state_in after))

-- ---- the whole search

-- one pass more, counted as far as a plan may have nodes
abbrev pub one_more : ℕ → ℕ
one_more k = cond (ltb k max_nodes) (k + 1) k

-- a search at rest after this number of passes, and every byte of no link is as it was; or a circuit of so many steps
pub record Settles (P : Plan) (claim : Claim) (before after : List ℕ) (r : rust.Result ℕ ℕ) : Type 0 where
  pub search : OnOk r (SearchIn P claim after × Quiet claim.n (state_in after))
  pub passes : IfOk r (λ k. PassesAt P claim (beginning claim.n) (known_distances claim after) k)
  pub links : OnOk r (Only links_at links_size before after)
  pub circuit : IfErr r (λ k. (0 < k) × Turned P claim after k)
  pub only : Only links_at (links_size + steps_size) before after
