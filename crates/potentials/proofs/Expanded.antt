-- A label of a numbered node: its edges are those of its choices, and the patterns noted are theirs. Assumes nothing.
use mathlib.Core.Path.{◌≡◌, sym, ap, subst, ◌∙◌}
use mathlib.Core.List.Memᴰ
use mathlib.Core.List.{List, [], map, Memᴰ}
use Prim.Native.Nat.{ℕ, ◌/◌, ◌^◌, ◌<◌}
use native.Mathlib.Omega.{arith}
use lib.ListN.{length}
use Rattle.std.specs.Prelude as rust
use Rattle.std.specs.Prelude.{None}
use Rattle.model.specs.Graph as model
use Rattle.model.specs.Graph.{choices, joined, edge_of, edges_to, edges_at, nodes}
use Rattle.model.specs.Lists.{up_from}
use Rattle.model.specs.Options.{option_of}
use Rattle.model.specs.Plan as model_plan
use Rattle.model.specs.Plan.{Plan, next_in}
use Rattle.model.specs.Slot as model_slot
use Rattle.model.specs.Slot.{slot}
use Rattle.model.proofs.Lists.{mem-up_from, mem-of-up_from}
use Rattle.theory.specs.Lightest.{node_at}
use Rattle.theory.proofs.Edges.{EdgeAt, mem-edges_at, mem-edges}
use Rattle.theory.proofs.Nodes.{nodes-closed}
use Rattle.theory.proofs.Sound.{sound-plan, label-below}
use Rattle.policy.specs.View.{Tasks, jobs_of, tasks_in}
use Rattle.policy.specs.declared.Rules.{Rules}
use Rattle.graph.specs.Outcomes.{pattern_count, Notes, pattern_in, notes_in, noted_of, nothing_noted}
use Rattle.graph.specs.View.{node_of}
use Rattle.node.specs.declared.Node.{Node}
use Rattle.graph.specs.declared.Noted.{Noted}
use Rattle.discovery.proofs.Held.{held-node}
use Rattle.potentials.specs.Potentials.{with_pattern}
use Rattle.potentials.specs.Best.{Leads, Expanded}
use Rattle.potentials.proofs.Greatest.{order_choice}
use Rattle.potentials.proofs.Numbers.{nodes-few, node-mem}

module _ {P : Plan} {r : Rules} {next m : List ℕ} {n u : ℕ} {node : Node} {l : ℕ} where
  module _ {to : rust.Option ℕ} (t : Leads P r next m n u node l to) where
    -- the node is that of its number
    pub node-is : node_of (tasks_in r) node ≡ node_at P u
    node-is = ap (node_of (tasks_in r)) t.at.row ∙ held-node (tasks_in r) m n (nodes P) t.holds.nodes u t.at.below

    node_there : Memᴰ (node_of (tasks_in r) node) (nodes P)
    node_there =
        subst (λ (v : Node). Memᴰ (node_of (tasks_in r) v) (nodes P)) (sym t.at.row) (node-mem P (tasks_in r) m n t.holds u t.at.below)

    -- its edges are those to the state
    edges-to : edges_at P (node_of (tasks_in r) node) l ≡ edges_to P (node_of (tasks_in r) node) l (option_of to)
    unfolding edges_at
    edges-to =
        ap (edges_to P (node_of (tasks_in r) node) l)
        (ap (λ (as' : List model_plan.Arc). next_in as' node.state l) t.planned.arcs ∙ sym t.state)

  -- none for none
  pub edges_none : Leads P r next m n u node l None → edges_at P (node_of (tasks_in r) node) l ≡ []
  edges_none t = edges-to t

  module _ {state : ℕ} {before notes : List ℕ} {d : Noted} (t : Expanded P r next m n u node l state before notes d) where
    abbrev ts : Tasks
    ts = tasks_in r

    -- the slot
    abbrev done : model_slot.Done
    done = slot P (jobs_of ts node.cells) l

    pub jobs-left : jobs_of ts d.done.cells ≡ done.jobs
    jobs-left = ap (λ (e : model_slot.Done). e.jobs) (t.reaches.slot.rule P t.leads.planned.for.tasks t.leads.planned.for.policy)

    pub gained : d.done.gain ≡ done.gain
    gained = ap (λ (e : model_slot.Done). e.gain) (t.reaches.slot.rule P t.leads.planned.for.tasks t.leads.planned.for.policy)

    -- the edges are those of the choices
    pub edges-choices : edges_at P (node_of ts node) l ≡ map (edge_of P (node_of ts node) l state) (choices ts l node.taken)
    edges-choices =
        edges-to t.leads
        ∙ ap (λ (ts' : Tasks). map (edge_of P (node_of ts node) l state) (choices ts' l node.taken)) t.leads.planned.for.tasks

    -- a choice leads to the node of its pattern
    pub choice_to : (ms : List ℕ) →
        (edge_of P (node_of ts node) l state ms).to ≡ node_of ts (with_pattern d.done.cells state (joined node.taken ms / 2))
    unfolding edge_of
    choice_to ms = λ i. record { jobs = sym jobs-left i; taken = joined node.taken ms / 2; state = state }

    -- which is among the nodes
    target : (ms : List ℕ) → Memᴰ ms (choices ts l node.taken) →
        Memᴰ (node_of ts (with_pattern d.done.cells state (joined node.taken ms / 2))) (nodes P)
    target ms k =
        Memᴰ.cast (sym (choice_to ms))
        (nodes-closed P (nodes-few P ts m n t.leads.holds) v (node_there t.leads) e
        ((mem-edges P v e).1 (record { label = l; below = below; at = at })))
      where
        v : model.Node
        v = node_of ts node

        e : model.Edge
        e = edge_of P v l state ms

        at : EdgeAt P v l e
        at = (mem-edges_at P v l e).0 (subst (Memᴰ e) (sym edges-choices) (Memᴰ.map (edge_of P v l state) k))

        below : l < 2 ^ length P.tasks
        below = label-below P (sound-plan P t.leads.planned.sound) node.state l at.next at.admitted

    -- the patterns that are noted, in their order
    abbrev order : List ℕ
    order = (noted_of ts l node.taken t.wanted nothing_noted).order

    -- the node of such a pattern is among the nodes
    pub pattern_there : (p : ℕ) → Memᴰ p order → Memᴰ (node_of ts (with_pattern d.done.cells state p)) (nodes P)
    pattern_there p k =
        let c = order_choice ts t.ruled.tasks l node.taken t.low t.wanted p k in
        subst (λ (q : ℕ). Memᴰ (node_of ts (with_pattern d.done.cells state q)) (nodes P)) c.2 (target c.0 c.1)

    -- the patterns in the notes are such
    pub noted_there : (k : ℕ) → k < d.count → Memᴰ (pattern_in notes k) order
    unfolding notes_in
    noted_there k h =
        subst (λ (n : Notes). Memᴰ (pattern_in notes k) n.order) t.reaches.notes
        (Memᴰ.map (pattern_in notes) {a = k} (mem-up_from 0 d.count (omega arith) (omega arith)))

    -- and all of them
    pub there_noted : (p : ℕ) → Memᴰ p order → (k : ℕ) × (k < d.count) × (pattern_in notes k ≡ p)
    unfolding notes_in
    there_noted p mem =
        let s = Memᴰ.of_map (pattern_in notes) (up_from 0 d.count) (subst (λ (n : Notes). Memᴰ p n.order) (sym t.reaches.notes) mem) in
        (s.0, omega (arith, mem-of-up_from 0 d.count s.1), s.2)

    -- they are patterns
    pub pattern_small : (p : ℕ) → Memᴰ p order → p < pattern_count
    pattern_small p k = let s = there_noted p k in subst (λ (q : ℕ). q < pattern_count) s.2 (t.reaches.readable.low s.0 s.1)
