-- The edges of a node are taken, by what is tried of them. Assumes nothing.
use mathlib.Core.Path.{◌≡◌, subst}
use mathlib.Core.Bool.{true, false}
use mathlib.Core.List.{List}
use Prim.Native.Nat.{ℕ, ◌<◌}
use native.Mathlib.Omega.{arith}
use lib.ListN.{length}
use Rattle.model.specs.Graph.{nodes, too_large}
use Rattle.model.specs.Passes.{relax_node}
use Rattle.model.specs.Plan.{Plan}
use Rattle.theory.specs.Search.{distances_of, Later, Done, Spread}
use Rattle.theory.proofs.Nodes.{some-node}
use Rattle.theory.proofs.Searched.{node-waits, node_idle}
use Rattle.theory.proofs.Sound.{PlanSound, sound-plan}
use Rattle.policy.specs.View.{tasks_in}
use Rattle.policy.specs.declared.Rules.{Rules}
use Rattle.discovery.proofs.Held.{held-count}
use Rattle.potentials.proofs.Numbers.{nodes-few}
use Rattle.potentials.specs.declared.Claim.{Claim}
use Rattle.links.specs.Links.{state_in}
use Rattle.distances.specs.Distances.{LinkOf, SpreadIn, known_distances, Priced}

module _ {P : Plan} {r : Rules} {next m : List ℕ} {claim : Claim} (s : Priced P r next m claim) where
  -- all nodes are there
  pub nodes-count : length (nodes P) ≡ claim.n
  nodes-count = held-count (tasks_in r) m claim.n (nodes P) s.holds.nodes

  pub nodes-some : 0 < claim.n
  nodes-some = omega (arith, nodes-count, some-node P)

  fits : too_large P ≡ false
  fits = nodes-few P (tasks_in r) m claim.n s.holds

  sd : PlanSound P
  sd = sound-plan P s.planned.sound

  -- the node waits: what its links lead to stands
  pub taken-waits : (m' : List ℕ) {u : ℕ} → u < claim.n → (state_in m).known u ≡ true → Later claim.n (state_in m) (state_in m') →
      Done (LinkOf P claim) claim.n (state_in m') u → SpreadIn P claim m m' u →
      relax_node P claim.fraction.p claim.fraction.q (known_distances claim m) u ≡ known_distances claim m'
  taken-waits m' {u} below known =
      subst
      (λ (n : ℕ). u < n → Later n (state_in m) (state_in m') → Done (LinkOf P claim) n (state_in m') u → Spread (LinkOf P claim) n (state_in m) (state_in m') u →
      relax_node P claim.fraction.p claim.fraction.q (distances_of n (state_in m)) u ≡ distances_of n (state_in m'))
      nodes-count (λ h. node-waits P sd fits claim.fraction.p claim.fraction.q u h (state_in m) (state_in m') known) below

  -- or not: nothing is left to take
  pub taken_idle : {u : ℕ} → u < claim.n → ((state_in m).known u ≡ true → Done (LinkOf P claim) claim.n (state_in m) u) →
      relax_node P claim.fraction.p claim.fraction.q (known_distances claim m) u ≡ known_distances claim m
  taken_idle {u} =
      subst
      (λ (n : ℕ). u < n → ((state_in m).known u ≡ true → Done (LinkOf P claim) n (state_in m) u) →
      relax_node P claim.fraction.p claim.fraction.q (distances_of n (state_in m)) u ≡ distances_of n (state_in m))
      nodes-count (λ h. node_idle P sd fits claim.fraction.p claim.fraction.q u h (state_in m))
