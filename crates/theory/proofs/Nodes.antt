-- The list of a plan's nodes: no two are the same, each is reached by a walk, and where it is not too long it holds all that are.
-- Assumes nothing.
use mathlib.Core.Path.{◌≡◌, sym, ◌∙◌, ap, subst}
use mathlib.Core.Bool.{Bool, true, false, ◌&&◌}
use mathlib.Core.Logic.{◌↔◌}
use mathlib.Core.List.Memᴰ
use mathlib.Core.List.{List, [], ◌∷◌, ◌++◌, Memᴰ}
use Prim.Native.Nat.{ℕ, ◌<◌, ◌≤◌}
use lib.Dec.{eqb}
use lib.ListN.{length, get_or}
use borrow.Author.Tests.{ltb-true, ltb-false, eqb-true, eq-eqb}
use Rattle.model.specs.Limits.{max_nodes}
use Rattle.model.specs.Discovery.{among, found, number_in}
use Rattle.model.specs.Plan.{Plan}
use Rattle.model.specs.Slot.{Job}
use Rattle.model.specs.Graph.{Node, Edge, start, edges, same_job, same_jobs, same_node, targets, nodes, too_large}
use Rattle.model.specs.Walk as walk
use Rattle.model.specs.Walk.{Walk}
use Rattle.model.proofs.Plan.{both}
use Rattle.model.proofs.Tests.{true-and, same_by_lem}
use Rattle.model.proofs.Distinct.{Distinct}
use Rattle.model.proofs.Discovery as general
use Rattle.model.proofs.Discovery.{Leads, here, go, Known, known-found, start-found, found-closed, led-found, few-led}
use Rattle.theory.proofs.Cycles.{walk_snoc}

-- ---- the tests of equality

-- jobs with the same parts are the same
job_path : {a b : Job} → a.task ≡ b.task → a.work ≡ b.work → a.left ≡ b.left → a ≡ b
job_path p q r = λ i. record { task = p i; work = q i; left = r i }

-- nodes with the same parts are the same
node_path : {u v : Node} → u.jobs ≡ v.jobs → u.taken ≡ v.taken → u.state ≡ v.state → u ≡ v
node_path p q r = λ i. record { jobs = p i; taken = q i; state = r i }

-- the test of two jobs decides whether they are the same
same_job_lem : (a b : Job) → (same_job a b ≡ true) ↔ (a ≡ b)
same_job_lem a b = (
  λ h.
      let two = both (task && work) left h in
      let one = both task work two.0 in
      job_path (eqb-true _ _ one.0) (eqb-true _ _ one.1) (eqb-true _ _ two.1),
  λ e.
      true-and (task && work) left (true-and task work (eq-eqb _ _ (ap (λ j. j.task) e)) (eq-eqb _ _ (ap (λ j. j.work) e)))
      (eq-eqb _ _ (ap (λ j. j.left) e)),
)
  where
    task : Bool
    task = eqb a.task b.task

    work : Bool
    work = eqb a.work b.work

    left : Bool
    left = eqb a.left b.left

-- the same of lists of jobs
same-jobs : (as' bs : List Job) → (same_jobs as' bs ≡ true) ↔ (as' ≡ bs)
same-jobs = same_by_lem same_job same_job_lem

-- the same of nodes
pub same-node : (u v : Node) → (same_node u v ≡ true) ↔ (u ≡ v)
same-node u v = (
  λ h.
      let two = both (jobs && taken) state h in
      let one = both jobs taken two.0 in
      node_path ((same-jobs u.jobs v.jobs).0 one.0) (eqb-true _ _ one.1) (eqb-true _ _ two.1),
  λ e.
      true-and (jobs && taken) state
      (true-and jobs taken ((same-jobs u.jobs v.jobs).1 (ap (λ n. n.jobs) e)) (eq-eqb _ _ (ap (λ n. n.taken) e)))
      (eq-eqb _ _ (ap (λ n. n.state) e)),
)
  where
    jobs : Bool
    jobs = same_jobs u.jobs v.jobs

    taken : Bool
    taken = eqb u.taken v.taken

    state : Bool
    state = eqb u.state v.state

-- ---- discovery, by the general laws

-- the test of membership decides it
pub among-mem : (u : Node) (ns : List Node) → (among same_node u ns ≡ true) ↔ Memᴰ u ns
among-mem = general.among-mem same_node same-node

-- a node's number is its place
pub number_at : (ns : List Node) (u d : Node) → Memᴰ u ns → (number_in same_node ns u < length ns) × (get_or ns (number_in same_node ns u) d ≡ u)
number_at = general.number_at same_node same-node

-- the number of the node at a place is that place
pub number-get_or : (ns : List Node) (d : Node) → Distinct ns → (i : ℕ) → i < length ns → number_in same_node ns (get_or ns i d) ≡ i
number-get_or = general.number-get_or same_node same-node

-- a walk leads there from the start
abbrev pub Reachable : Plan → Node → Type 0
Reachable P v = (es : List Edge) × Walk P start v es

-- every edge of a node of the list leads to one of the list
abbrev pub Closed : Plan → List Node → Type 0
Closed P ns = (u : Node) → Memᴰ u ns → (e : Edge) → Memᴰ e (edges P u) → Memᴰ e.to ns

module _ (P : Plan) where
  abbrev Led : Node → Type 0
  Led = Leads same_node same-node (targets P) start

  led_walk : {v : Node} → Led v → Reachable P v
  led_walk here = ([], walk.here)
  led_walk (go {u = u} l m) =
      let w = led_walk l in
      let r = Memᴰ.of_map (λ e. e.to) (edges P u) m in
      (w.0 ++ (r.0 ∷ []), subst (λ n. Walk P start n (w.0 ++ (r.0 ∷ []))) r.2 (walk_snoc w.1 r.1))

  walk_led : {u v : Node} {es : List Edge} → Led u → Walk P u v es → Led v
  walk_led l walk.here = l
  walk_led l (walk.go m w) = walk_led (go l (Memᴰ.map (λ e. e.to) m)) w

  -- the nodes known once k of them have been explored
  abbrev pub explored : ℕ → List Node
  explored k = found same_node (targets P) start k

  -- each is reached by a walk
  pub explored_reachable : (k : ℕ) (v : Node) → Memᴰ v (explored k) → Reachable P v
  explored_reachable k v m = led_walk ((known-found same_node same-node (targets P) start k).led v m)

  -- ---- all nodes

  known-nodes : Known same_node same-node (targets P) start max_nodes (nodes P)
  unfolding nodes
  known-nodes = known-found same_node same-node (targets P) start max_nodes

  -- no two nodes are the same
  pub nodes-distinct : Distinct (nodes P)
  nodes-distinct = known-nodes.distinct

  -- there is one, and the first is the start node
  pub some-node : 0 < length (nodes P)
  some-node = known-nodes.some

  pub first-node : get_or (nodes P) 0 start ≡ start
  first-node = known-nodes.first

  -- each is reached by a walk
  pub nodes_reachable : (v : Node) → Memᴰ v (nodes P) → Reachable P v
  nodes_reachable v m = led_walk (known-nodes.led v m)

  -- the start node is among them
  pub start_in_nodes : Memᴰ start (nodes P)
  unfolding nodes
  start_in_nodes = start-found same_node same-node (targets P) start max_nodes

  -- as number 0
  pub number-start : number_in same_node (nodes P) start ≡ 0
  number-start =
      ap (number_in same_node (nodes P)) (sym first-node) ∙ number-get_or (nodes P) start nodes-distinct 0 some-node

  -- a list that is not too large is at most the limit
  pub nodes_fit : too_large P ≡ false → length (nodes P) ≤ max_nodes
  unfolding too_large
  nodes_fit h = ltb-false max_nodes (length (nodes P)) h

  -- where the list is not too large, it is closed
  pub nodes-closed : too_large P ≡ false → Closed P (nodes P)
  unfolding nodes
  nodes-closed h u m e k = found-closed same_node same-node (targets P) start max_nodes (nodes_fit h) u e.to m (Memᴰ.map (λ e. e.to) k)

  -- so it holds every node that a walk leads to
  pub walk_in_nodes : too_large P ≡ false → {v : Node} {es : List Edge} → Walk P start v es → Memᴰ v (nodes P)
  unfolding nodes
  walk_in_nodes h w = led-found same_node same-node (targets P) start max_nodes (nodes_fit h) (walk_led here w)

  -- too large: more nodes than the limit, no two the same, are reachable
  pub large_many : too_large P ≡ true →
      (ns : List Node) × (max_nodes < length ns) × Distinct ns × ((v : Node) → Memᴰ v ns → Reachable P v)
  unfolding too_large
  large_many h = (nodes P, ltb-true max_nodes (length (nodes P)) h, nodes-distinct, nodes_reachable)

  -- not too large: there are no more than the limit
  pub few_reachable : too_large P ≡ false →
      (ns : List Node) → Distinct ns → ((v : Node) → Memᴰ v ns → Reachable P v) → length ns ≤ max_nodes
  unfolding nodes
  few_reachable h ns d r =
      few-led same_node same-node (targets P) start max_nodes (nodes_fit h) ns d (λ v m. walk_led here (r v m).1)
