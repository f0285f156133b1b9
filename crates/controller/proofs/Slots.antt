-- A slot that is asked for, on the parts of a block.
-- Assumes nothing.
use Rattle.std.proofs.Common.{◌≡◌, ℕ, ◌+◌, ◌%◌, ltb, List, sym, ap, ◌∙◌}
use mathlib.Core.Option.{Option, none, some}
use Rattle.model.specs.Controller as model
use Rattle.model.specs.Controller.{gain_limit, not_admitted_bit, ran_to}
use Rattle.model.specs.Lists.{one}
use Rattle.model.specs.Plan.{Plan, next_in}
use Rattle.model.specs.Slot as model_slot
use Rattle.plan.specs.View.{arcs_in, StatesFit}
use Rattle.policy.specs.View.{cell_number, slot_cells, tasks_in, task_number, Ruled, Slotted}
use Rattle.policy.specs.declared.Done.{Done}
use Rattle.policy.specs.declared.Rules.{Rules}
use Rattle.policy.proofs.Finished.{finished_shown}
use Rattle.policy.proofs.Interruptions.{row_shown}
use Rattle.controller.specs.Block.{Ready, block_of}
use Rattle.controller.specs.View.{PartOf, Becomes}
use Rattle.controller.specs.declared.part.Block.{Block}

module _ (rules : Rules) (next : List ℕ) (b : Block) (h : Ready rules b) where
  -- the block that is due
  abbrev due : Plan → model.Block
  due P = ran_to P (block_of (tasks_in rules) b) (next_in P.arcs b.state b.label)

  -- where the label leads
  leads : (P : Plan) → PartOf P rules next → (o : Option ℕ) → o ≡ next_in (arcs_in next) b.state b.label → due P ≡ ran_to P (block_of (tasks_in rules) b) o
  leads P part o found =
      ap (ran_to P (block_of (tasks_in rules) b)) (ap (λ as'. next_in as' b.state b.label) part.arcs ∙ sym found)

  -- a label that is not admitted
  pub stays : none ≡ next_in (arcs_in next) b.state b.label →
      Becomes rules next due (record { label = 0; status = not_admitted_bit; mask = b.mask; ran = 0; gain = b.gain; cells = b.cells; state = b.state })
  unfolding ran_to
  stays found = record {
    is = λ P part. sym (leads P part none found);
    ready = record { cells = h.cells; state = h.state };
  }

  -- one that is
  module _ (ruled : Ruled rules) (states : StatesFit next) (t : ℕ) (found : some t ≡ next_in (arcs_in next) b.state b.label) (d : Done)
      (slotted : Slotted rules b.cells b.label d) (status ran gain : ℕ)
      (is_status : status ≡ one (ltb 0 d.gain)) (is_ran : ran ≡ task_number (cell_number d.ran)) (is_gain : gain ≡ (b.gain + d.gain) % gain_limit) where
    pub goes : Becomes rules next due (record { label = 0; status = status; mask = b.mask; ran = ran; gain = gain; cells = d.cells; state = t })
    unfolding ran_to
    goes = record {
      is = λ P part.
          let same = part.for.tasks in
          let by = part.for.policy in
          let rule = slotted.rule P same by in
          let finished = finished_shown rules ruled b.cells h.cells b.label d slotted P same by in
          let row = row_shown rules ruled b.cells h.cells b.label d slotted P same by slot_cells in
          (λ i. record {
            label = 0;
            status = (is_status ∙ sym finished) i;
            mask = b.mask;
            ran = (is_ran ∙ ap (λ r. r.ran) (sym row)) i;
            gain = (is_gain ∙ ap (λ (e : model_slot.Done). (b.gain + e.gain) % gain_limit) rule) i;
            jobs = (rule i).jobs;
            state = t;
          })
          ∙ sym (leads P part (some t) found);
      ready = record { cells = slotted.cells; state = states.to b.state b.label t (sym found) };
    }
