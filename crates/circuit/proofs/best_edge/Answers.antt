-- `circuit::best_edge` meets its contract: the outcome noted for the other node's pattern is a best edge. Assumes nothing.
use Rattle.std.proofs.Common.{arith, refl, sym, ap, subst, ◌∙◌, ℕ, length, ◌-◌, ◌*◌, ◌^◌, ◌<◌}
use Rattle.model.specs.Limits.{max_tasks}
use Rattle.words.specs.Packed.{field_base, unpacked}
use Rattle.theory.proofs.Sound.{sound-plan}
use Rattle.circuit.proofs.Linked.{linked-cells, linked-taken, linked-noted, packed-low, packed-padded}
use Rattle.circuit.proofs.best_edge.Goals as goal

pub reach-noted-requires-clause-node : goal.reach-noted-requires-clause-node
reach-noted-requires-clause-node c =
    let t = c.requires.linking.linked in (linked-cells t c.node_at-node.ensures, linked-taken t c.node_at-node.ensures)

pub best_score-ideal-requires : goal.best_score-ideal-requires
best_score-ideal-requires c =
    (linked-noted c.requires.linking.linked c.node_at-node.ensures c.requires.ruled c.reach-noted.ensures.reaches c.node_at-target.ensures).low

pub overflow_sub-ideal : goal.overflow_sub-ideal
overflow_sub-ideal c =
    let b = linked-noted c.requires.linking.linked c.node_at-node.ensures c.requires.ruled c.reach-noted.ensures.reaches c.node_at-target.ensures in
    omega (arith, c.best_score-ideal.ensures c.reach-noted.result.count, b.ideal)

pub best_masks-masks-requires : goal.best_masks-masks-requires
best_masks-masks-requires c =
    let planned = c.requires.linking.linked.planned in
    let ruled = c.requires.ruled in
    let b = linked-noted c.requires.linking.linked c.node_at-node.ensures ruled c.reach-noted.ensures.reaches c.node_at-target.ensures in (
      omega (arith, ruled.size, ap length planned.for.tasks, (sound-plan _ planned.sound).some_task),
      omega (arith, ruled.size, ruled.tasks.count),
      subst (λ (k : ℕ). k < field_base ^ c.args.rules.now.tasks.count) (sym (b.masks refl)) (packed-low planned ruled b.best),
    )

pub returns : goal.returns
returns c P next n e t =
    let tasks = c.args.rules.now.tasks.count in
    let ruled = c.requires.ruled in
    let b = linked-noted t c.node_at-node.ensures ruled c.reach-noted.ensures.reaches c.node_at-target.ensures in
    record {
      edge = b.edge;
      best = b.best;
      label = b.label;
      kept = b.kept ∙ sym c.from.ensures;
      ideal = omega (arith, c.best_score-ideal.ensures c.reach-noted.result.count, b.ideal);
      masks =
          packed-padded t.planned ruled b.best
          ∙ ap unpacked (ap (λ (k : ℕ). k * field_base ^ (max_tasks - tasks)) (sym (b.masks refl)) ∙ sym c.best_masks-masks.ensures);
    }
