-- A label that leads from one numbered node to another: the notes of its outcomes have a best edge. Assumes nothing.
use mathlib.Core.Path.{◌≡◌, sym, ap, subst, ◌∙◌}
use mathlib.Core.List.{List, ◌++◌, Memᴰ}
use Prim.Native.Nat.{ℕ, ◌-◌, ◌*◌, ◌^◌, ◌<◌}
use native.Mathlib.Omega.{arith}
use lib.ListN.{length, replicate}
use Rattle.std.specs.Prelude.{Some}
use Rattle.model.specs.Check.{padded}
use Rattle.model.specs.Edition.{long_reads}
use Rattle.model.specs.Graph.{Edge, edges, nodes}
use Rattle.model.specs.Limits.{max_tasks, max_window}
use Rattle.model.specs.Masks.{mask_count}
use Rattle.model.specs.Plan.{Plan, next_in}
use Rattle.model.proofs.Plan.{long_wide}
use Rattle.words.specs.Packed.{field_base, packed, unpacked}
use Rattle.words.proofs.Packed.{packed-zeros, packed_lt, unpacked-packed}
use Rattle.theory.specs.Lightest.{node_at, Best}
use Rattle.theory.proofs.Circuits.{best-edge}
use Rattle.theory.proofs.Edges.{EdgeAt, mem-edges_at}
use Rattle.theory.proofs.Form.{padded-length, edge-masks}
use Rattle.theory.proofs.Patterns.{WindowsWithin, mask_below}
use Rattle.theory.proofs.Sound.{PlanSound, sound-plan}
use Rattle.theory.proofs.Walks.{step-of}
use Rattle.plan.specs.View.{arcs_in}
use Rattle.policy.specs.View.{cell_count, Cells, tasks_in, Ruled}
use Rattle.policy.specs.declared.Rules.{Rules}
use Rattle.graph.specs.Label.{Reaches}
use Rattle.graph.specs.View.{Planned}
use Rattle.graph.proofs.Search.{padded_plain}
use Rattle.node.specs.declared.Node.{Node}
use Rattle.graph.specs.declared.Noted.{Noted}
use Rattle.store.specs.Store.{row_at}
use Rattle.discovery.specs.Discovery.{node_in}
use Rattle.discovery.proofs.Held.{held-node}
use Rattle.potentials.specs.Best.{Leads, NotedBest}
use Rattle.potentials.proofs.Best.{step-noted}
use Rattle.potentials.proofs.Numbers.{numbered-taken}
use Rattle.circuit.specs.Circuit.{Linked}

module _ {P : Plan} {r : Rules} {next m : List ℕ} {n u l v : ℕ} {e : Edge} (t : Linked P r next m n u l v e)
    {node : Node} (from : node ≡ node_in (row_at m u)) where
  pub linked-cells : Cells (tasks_in r) cell_count node.cells
  linked-cells = subst (λ (w : Node). Cells (tasks_in r) cell_count w.cells) (sym from) (t.holds.rows.cells u t.from)

  at : EdgeAt P (node_at P u) l e
  at = (mem-edges_at P (node_at P u) l e).0 t.best.edge

  -- the label is admitted there
  leads : Leads P r next m n u node l (Some at.next)
  leads = record {
    planned = t.planned;
    holds = t.holds;
    at = record { below = t.from; row = from };
    state =
        sym at.admitted
        ∙ (λ i. next_in (t.planned.arcs i) (sym (held-node (tasks_in r) m n (nodes P) t.holds.nodes u t.from) i).state l)
        ∙ ap (λ (w : Node). next_in (arcs_in next) w.state l) (sym from);
  }

  pub linked-taken : node.taken < mask_count
  linked-taken = numbered-taken P (tasks_in r) m n t.holds t.planned.sound u node (record { below = t.from; row = from })

  -- what is noted for the pattern of the other node is a best edge
  pub linked-noted : Ruled r → {wanted : ℕ} {before notes : List ℕ} {d : Noted} → Reaches r node l wanted before notes d →
      {target : Node} → target ≡ node_in (row_at m v) → NotedBest P u l v wanted notes d target.taken
  linked-noted ruled {wanted} {notes = notes} {d = d} reaches to =
      subst (λ (w : Node). NotedBest P u l v wanted notes d w.taken) (sym to)
      (step-noted (record { leads = leads; ruled = ruled; low = linked-taken; wanted = wanted; reaches = reaches }) t.to t.best)

-- the masks of a best edge, packed: one for each task, and then 0 for a task that the plan lacks
module _ {P : Plan} {r : Rules} {next : List ℕ} (planned : Planned P r next) (ruled : Ruled r) {u l v : ℕ} {e : Edge} (b : Best P u l v e) where
  sd : PlanSound P
  sd = sound-plan P planned.sound

  windows : WindowsWithin P max_window
  windows t m = (sd.task t m).window_fits

  member : Memᴰ e (edges P (node_at P u))
  member = best-edge P sd b

  count : length e.masks ≡ r.tasks.count
  count = (step-of P (node_at P u) e member).fits.count ∙ ap length planned.for.tasks ∙ ruled.size

  pub packed-low : packed e.masks < field_base ^ r.tasks.count
  packed-low =
      subst (λ (k : ℕ). packed e.masks < field_base ^ k) count
      (packed_lt e.masks (λ i. omega (arith, mask_below P max_window windows (node_at P u) e member i)))

  pub packed-padded : padded e.masks ≡ unpacked (packed e.masks * field_base ^ (max_tasks - r.tasks.count))
  packed-padded =
      let plain : padded e.masks ≡ e.masks ++ replicate (max_tasks - length e.masks) 0 =
      padded_plain e.masks max_tasks max_tasks (omega (arith, count, ruled.tasks.count, ruled.size)) (omega arith) in
      sym (unpacked-packed (padded e.masks) (edge-masks long_reads long_wide P windows (node_at P u) e member).below (padded-length e.masks))
      ∙ ap unpacked (ap packed plain ∙ packed-zeros e.masks (max_tasks - length e.masks))
      ∙ ap (λ (k : ℕ). unpacked (packed e.masks * field_base ^ (max_tasks - k))) count
