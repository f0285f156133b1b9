-- Each turn writes its slot, and the rest of the trace is still to come.
use mathlib.Core.Path.{◌≡◌, refl, sym, ◌∙◌}
use mathlib.Core.List.{List, []}
use borrow.Author.Rules.{rules}
use Prim.Native.Nat.{ℕ, suc, ◌*◌, ◌≤◌, ◌<◌}
use native.Mathlib.Numerals.{add-one}
use native.Mathlib.Omega.{arith}
use lib.ListN.{length, get_or}
use Rattle.model.specs.Bytes.{overwrite}
use Rattle.model.specs.Trace.{Row, row_bytes, row_size}
use Rattle.policy.specs.declared.Rules.{Rules}
use Rattle.policy.specs.declared.Done.{Done}
use Rattle.policy.specs.View.{cell_number, tasks_in, cell_count, slot_cells, Leaves, Ruled, Slotted, task_number, displaced_task, done_of}
use Rattle.policy.proofs.Interruptions.{row_shown}
use Rattle.tracer.proofs.Slots.{writing_start, writing-next, writing-end}
use Rattle.tracer.proofs.write_slots.Invariants.{Reached}
use Rattle.tracer.proofs.write_slots.Goals as goal

-- before the first label
reached-start : (rules : Rules) (labels before cells : List ℕ) → Leaves (tasks_in rules) [] cell_count cells →
    Reached rules labels before before cells slot_cells 0
reached-start rules labels before cells h = record {
  held = h.cells;
  inside = omega arith;
  size = refl;
  writing = λ P t p. rw h.jobs (writing_start P labels before);
}

-- one label more
module _ (rules : Rules) (labels before now' cells : List ℕ) (ran i : ℕ) (ruled : Ruled rules) (room : row_size * length labels ≤ length before)
    (h : Reached rules labels before now' cells ran i) (more : i < length labels) (d : Done) (slotted : Slotted rules cells (get_or labels i 0) d)
    (r : Row) (is : r ≡ record { ran = task_number (cell_number d.ran); gain = d.gain; cut = displaced_task cells ran (cell_number d.ran) })
    (after : List ℕ) (put : after ≡ overwrite now' (row_size * i) (row_bytes r)) (size : length after ≡ length now') where
  reached-next : Reached rules labels before after d.cells (cell_number d.ran) (suc i)
  reached-next = record {
    held = slotted.cells;
    inside = more;
    size = size ∙ h.size;
    writing = λ P t p.
        rw put
        (writing-next P labels before now' _ _ i room (h.writing P t p) more (done_of (tasks_in rules) d) (slotted.rule P t p) r
        (is ∙ sym (row_shown rules ruled cells h.held (get_or labels i 0) d slotted P t p ran)));
  }

pub loop-slot-init : goal.loop-slot-init
loop-slot-init c = reached-start _ _ _ _ (c.no_jobs-cells.ensures _)

pub loop-slot-preserved : goal.loop-slot-preserved
loop-slot-preserved c =
    rw (add-one c.loop-slot.slot)
    (reached-next _ _ _ _ _ _ _ c.args.machine.now.ruled c.requires c.loop-slot.invariant c.loop-slot-test.true c.slot-done.result c.slot-done.ensures.slotted
    _ (λ i. record { ran = c.task_number-task.ensures i; gain = c.slot-done.result.gain; cut = c.displaced-cut.ensures i }) _ c.put_row.ensures c.put_row.auto.out)

pub returns : goal.returns
returns c P t p = writing-end P _ _ _ _ _ _ c.requires (c.loop-slot.invariant.writing P t p) c.loop-slot-test.false
