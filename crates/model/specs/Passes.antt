-- The passes by which the solver finds the distances of a fraction.
use Rattle.std.specs.Prelude.{◌≡◌, ℕ, suc, ◌-◌, Bool, true, false, cond, ◌&&◌, ℤ, pos, ◌+ℤ◌, length, get_or, set, replicate}
use mathlib.Core.List.{List, ◌∷◌, foldl}
use Rattle.std.proofs.Math.Option.{Option, none, some}
use Rattle.std.specs.Int.Signed.{le_z, lt_z}
use Rattle.model.specs.Lists.{up_from, same_by}
use Rattle.model.specs.Discovery.{number_in}
use Rattle.model.specs.Plan.{Plan}
use Rattle.model.specs.Graph.{Node, Edge, start, nodes, edges, same_node}
use Rattle.model.specs.Check.{weight}

-- a distance for each node by number, none while it is unknown
abbrev pub Distances : Type 0
Distances = List (Option ℤ)

abbrev pub distance_at : Distances → ℕ → Option ℤ
distance_at ds v = get_or ds v none

-- "from 0 at the start node, the others unknown", for n nodes
abbrev pub beginning : ℕ → Distances
beginning n = some (pos 0) ∷ replicate (n - 1) none

-- ---- one pass

-- whether z is smaller than a distance; than an unknown one every z is
abbrev pub is_smaller : ℤ → Option ℤ → Bool
is_smaller z none = true
is_smaller z (some d) = lt_z z d

-- v can be reached at the distance z: "a smaller distance stands at once"
abbrev pub lowered : Distances → ℕ → ℤ → Distances
lowered ds v z = cond (is_smaller z (distance_at ds v)) (set ds v (some z)) ds

-- an edge is taken, its first node at this distance
abbrev pub relax_from : List Node → ℕ → ℕ → Distances → Edge → Option ℤ → Distances
relax_from ns p q ds e none = ds
relax_from ns p q ds e (some d) = lowered ds (number_in same_node ns e.to) (d +ℤ weight p q e)

-- an edge of the node u is taken
abbrev pub relax_edge : List Node → ℕ → ℕ → ℕ → Distances → Edge → Distances
relax_edge ns p q u ds e = relax_from ns p q ds e (distance_at ds u)

-- all edges of the node u are
unfoldable pub relax_node : Plan → ℕ → ℕ → Distances → ℕ → Distances
relax_node P p q ds u =
    let ns = nodes P in
    foldl (relax_edge ns p q u) ds (edges P (get_or ns u start))

-- "each pass takes all edges, their first nodes by number"
unfoldable pub pass : Plan → ℕ → ℕ → Distances → Distances
pass P p q ds = foldl (relax_node P p q) ds (up_from 0 (length (nodes P)))

-- ---- until no distance moves

-- "one found for the first time has moved"
abbrev pub same_distance : Option ℤ → Option ℤ → Bool
same_distance none none = true
same_distance none (some e) = false
same_distance (some d) none = false
same_distance (some d) (some e) = le_z d e && le_z e d

-- no distance has moved
abbrev pub unmoved : Distances → Distances → Bool
unmoved = same_by same_distance

-- The passes at the fraction p/q from some distances to the last ones, and their number: "The first pass in which no distance moved is
-- the last for that fraction", "the last included".
pub data PassesTo (P : Plan) (p q : ℕ) : Distances → Distances → ℕ → Type 0 where
  last : {ds : Distances} → unmoved ds (pass P p q ds) ≡ true → PassesTo P p q ds ds 1
  more : {ds es : Distances} {k : ℕ} → unmoved ds (pass P p q ds) ≡ false → PassesTo P p q (pass P p q ds) es k → PassesTo P p q ds es (suc k)
