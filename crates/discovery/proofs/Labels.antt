-- The nodes that a label leads to are those of its noted patterns. Assumes nothing.
use mathlib.Core.Path.{◌≡◌, sym, ap, subst, ◌∙◌}
use mathlib.Core.Option.{some}
use mathlib.Core.List.{List, map, foldl}
use Prim.Native.Nat.{ℕ, ◌/◌}
use Rattle.std.specs.Prelude as rust
use Rattle.model.specs.Discovery.{add}
use Rattle.model.specs.Graph as model
use Rattle.model.specs.Graph.{choices, joined, edges_to, same_node}
use Rattle.model.specs.Plan.{Plan}
use Rattle.model.specs.Slot as model_slot
use Rattle.policy.specs.View.{Tasks, jobs_of, tasks_in, PlanFor, Slotted}
use Rattle.policy.specs.declared.Rules.{Rules}
use Rattle.policy.specs.declared.Done.{Done}
use Rattle.graph.specs.View.{node_of}
use Rattle.node.specs.declared.Node.{Node}
use Rattle.graph.proofs.Outcomes.{firsts}
use Rattle.graph.proofs.Adding.{add-patterns}
use Rattle.discovery.specs.Discovery.{nodes_in, Holding, Known, Adds, nodes_with, Explored}

-- the nodes of these patterns are those that the label leads to
pub label-explored : (r : Rules) (u : Node) (l s : ℕ) (d : Done) (ps : List ℕ) (m : List ℕ) (n : ℕ) (m' : List ℕ) (q : rust.Option ℕ) →
    ps ≡ firsts (map (λ ms. joined u.taken ms / 2) (choices (tasks_in r) l u.taken)) → Slotted r u.cells l d → Holding (tasks_in r) m n →
    Adds d.cells (nodes_with d.cells s ps) m n m' q → Explored r (λ P. edges_to P (node_of (tasks_in r) u) l (some s)) m n m' q
label-explored r u l s d ps m n m' q order slotted held adds = record {
  known = λ P for. subst (λ (vs : List model.Node). Known (tasks_in r) vs m m' q) (same P for) (adds.known (tasks_in r) held slotted.cells);
}
  where
    ns : List model.Node
    ns = nodes_in (tasks_in r) m n

    patterns : Tasks → List ℕ
    patterns ts = firsts (map (λ ms. joined u.taken ms / 2) (choices ts l u.taken))

    after : List model_slot.Job → List ℕ → List model.Node
    after js qs = foldl (add same_node) ns (map (λ p. record { jobs = js; taken = p; state = s }) qs)

    same : (P : Plan) → PlanFor P r →
        foldl (add same_node) ns (nodes_with d.cells s ps (tasks_in r)) ≡ foldl (add same_node) ns (map (λ e. e.to) (edges_to P (node_of (tasks_in r) u) l (some s)))
    same P for =
        ap (after (jobs_of (tasks_in r) d.cells)) order
        ∙ ap (λ (js : List model_slot.Job). after js (patterns (tasks_in r))) (ap (λ (e : model_slot.Done). e.jobs) (slotted.rule P for.tasks for.policy))
        ∙ ap (λ (ts : Tasks). after (model_slot.slot P (jobs_of (tasks_in r) u.cells) l).jobs (patterns ts)) (sym for.tasks)
        ∙ sym (add-patterns P (node_of (tasks_in r) u) l s ns)
