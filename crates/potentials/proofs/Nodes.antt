-- The edges of a node by labels, and of all nodes by number. Assumes nothing.
use mathlib.Core.Path.{◌≡◌, refl, sym, ap, ap₂, subst, ◌∙◌}
use mathlib.Core.Bool.{Bool, ◌&&◌}
use mathlib.Core.List.{List, [], ◌∷◌}
use Prim.Native.Nat.{ℕ, suc, ◌+◌, ◌^◌, ◌<◌}
use native.Mathlib.Nat.{zero-add, add-zero}
use native.Mathlib.Omega.{arith}
use lib.IntN.{ℤ}
use lib.ListN.{length, get_or}
use Rattle.model.specs.Certificate.{Certificate}
use Rattle.model.specs.Check.{edge_ok, edges_ok_from}
use Rattle.model.specs.Graph.{Node, start, edges_at, edges, nodes}
use Rattle.model.specs.Lists.{all, up_from}
use Rattle.model.specs.Plan.{Plan}
use Rattle.model.proofs.All.{all-flat_map}
use Rattle.policy.specs.View.{tasks_in, Ruled}
use Rattle.policy.specs.declared.Rules.{Rules}
use Rattle.graph.specs.View.{node_of}
use Rattle.node.specs.declared.Node as plan
use Rattle.store.specs.Store.{row_at}
use Rattle.discovery.specs.Discovery.{node_in}
use Rattle.potentials.specs.declared.Claim.{Claim}
use Rattle.potentials.specs.Potentials.{Test}
use Rattle.discovery.proofs.Held.{held-count, held-node}

-- every edge of nodes, by a test of each node's number
edges-each : (P : Plan) (ns : List Node) (p q : ℕ) (zs : List ℤ) (f : ℕ → Bool) (u : ℕ) (vs : List Node) →
    ((j : ℕ) → j < length vs → all (edge_ok ns p q zs (u + j)) (edges P (get_or vs j start)) ≡ f (u + j)) →
    edges_ok_from P ns p q zs u vs ≡ all f (up_from u (length vs))
edges-each P ns p q zs f u [] same = refl
edges-each P ns p q zs f u (v ∷ vs) same =
    ap₂ (λ a b. a && b) (at v (add-zero u) (same 0 (omega arith)))
    (edges-each P ns p q zs f (suc u) vs (λ j h. at (get_or vs j start) (let e : u + suc j ≡ suc u + j = omega arith in e) (same (suc j) (omega arith))))
  where
    at : (w : Node) {i j : ℕ} → i ≡ j → all (edge_ok ns p q zs i) (edges P w) ≡ f i → all (edge_ok ns p q zs j) (edges P w) ≡ f j
    at w e h = subst (λ (k : ℕ). all (edge_ok ns p q zs k) (edges P w) ≡ f k) e h

-- the test of the edges of a label of the node v, numbered u
abbrev pub label_ok : Plan → Certificate → Claim → ℕ → Node → ℕ → Bool
label_ok P c claim u v l = all (edge_ok (nodes P) claim.fraction.p claim.fraction.q c.potentials u) (edges_at P v l)

-- and of the edges of the node in the row u
abbrev pub row_ok : Plan → Certificate → Claim → Rules → List ℕ → ℕ → Bool
row_ok P c claim r m u = all (edge_ok (nodes P) claim.fraction.p claim.fraction.q c.potentials u) (edges P (node_of (tasks_in r) (node_in (row_at m u))))

module _ {P : Plan} {c : Certificate} {r : Rules} {next m s : List ℕ} {claim : Claim} (t : Test P c r next m s claim) where
  -- a node's edges are those of its labels
  node-labels : Ruled r → (u : ℕ) (v : Node) →
      all (edge_ok (nodes P) claim.fraction.p claim.fraction.q c.potentials u) (edges P v) ≡ all (label_ok P c claim u v) (up_from 0 (2 ^ r.tasks.count))
  unfolding edges
  node-labels ruled u v =
      all-flat_map (edge_ok (nodes P) claim.fraction.p claim.fraction.q c.potentials u) (edges_at P v) (up_from 0 (2 ^ length P.tasks))
      ∙ ap (λ (n : ℕ). all (label_ok P c claim u v) (up_from 0 (2 ^ n))) (ap length t.planned.for.tasks ∙ ruled.size)

  -- and those of the node in the row u
  pub by-labels : Ruled r → (u : ℕ) (v : plan.Node) → v ≡ node_in (row_at m u) →
      row_ok P c claim r m u ≡ all (label_ok P c claim u (node_of (tasks_in r) v)) (up_from 0 (2 ^ r.tasks.count))
  by-labels ruled u v is =
      ap (λ (w : plan.Node). all (edge_ok (nodes P) claim.fraction.p claim.fraction.q c.potentials u) (edges P (node_of (tasks_in r) w))) (sym is)
      ∙ node-labels ruled u (node_of (tasks_in r) v)

  -- all edges are those of the nodes in the rows
  pub edges-rows : edges_ok_from P (nodes P) claim.fraction.p claim.fraction.q c.potentials 0 (nodes P) ≡ all (row_ok P c claim r m) (up_from 0 claim.n)
  edges-rows =
      edges-each P (nodes P) claim.fraction.p claim.fraction.q c.potentials (row_ok P c claim r m) 0 (nodes P) same
      ∙ ap (λ (n : ℕ). all (row_ok P c claim r m) (up_from 0 n)) count
    where
      count : length (nodes P) ≡ claim.n
      count = held-count (tasks_in r) m claim.n (nodes P) t.holds.nodes

      same : (j : ℕ) → j < length (nodes P) →
          all (edge_ok (nodes P) claim.fraction.p claim.fraction.q c.potentials (0 + j)) (edges P (get_or (nodes P) j start)) ≡ row_ok P c claim r m (0 + j)
      same j h =
          ap (λ (v : Node). all (edge_ok (nodes P) claim.fraction.p claim.fraction.q c.potentials (0 + j)) (edges P v))
          (sym (held-node (tasks_in r) m claim.n (nodes P) t.holds.nodes j (omega (arith, count)))
          ∙ ap (λ (k : ℕ). node_of (tasks_in r) (node_in (row_at m k))) (sym (zero-add j)))
