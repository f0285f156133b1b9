-- `cycle::follow` meets its contract: one step after another. Assumes nothing.
use mathlib.Core.Path.{◌≡◌, sym, ap, subst, ◌∙◌}
use Prim.Native.Nat.{ℕ, ◌+◌, ◌<◌}
use native.Mathlib.Omega.{arith}
use lib.ListN.{drop}
use Rattle.std.proofs.lemmas.Option.{none-some, same_Some}
use Rattle.model.specs.Edition.{long_reads}
use Rattle.model.specs.Check.{follow}
use Rattle.model.specs.Limits.{max_states}
use Rattle.model.specs.Masks.{mask_count}
use Rattle.words.specs.Packed.{unpacked}
use Rattle.certificate.specs.View.{step_size, step_in, step_at, certificate_of}
use Rattle.certificate.proofs.Runs.{items-length}
use Rattle.certificate.proofs.Placed.{placed}
use Rattle.policy.specs.View.{cell_count, Cells, tasks_in}
use Rattle.graph.specs.View.{plan_by}
use Rattle.graph.specs.Edge.{edge_end}
use Rattle.cycle.specs.Cycle.{Followed}
use Rattle.cycle.specs.declared.Walked.{Walked}
use Rattle.cycle.proofs.Steps.{here, step_lost, step-taken, steps-done}
use Rattle.cycle.proofs.follow.Goals as goal

pub returns-in_err-edge : goal.returns-in_err-edge
returns-in_err-edge c =
    let l = c.loop-j in
    let a = c.args in
    let r = a.machine.now.rules in
    let bs = a.s.now in
    let P = plan_by r a.machine.now.next max_states in
    let ss = (certificate_of long_reads bs a.parts).steps in
    let size = items-length (step_in long_reads bs) a.parts.from step_size a.parts.steps in
    let step : record { label = c.step_label-label.result; masks = unpacked c.step_masks-masks.result } ≡ step_at ss l.j =
    λ i. record { label = c.step_label-label.ensures i; masks = c.step_masks-masks.ensures i } in
    subst (Followed a.machine.now.next r ss a.from) (sym c.from_residual.ensures) (record {
      reached =
          sym (step_lost P (tasks_in r) ss l.j (omega (arith, size, c.loop-j-test.true)) l.at l.kept l.ideal
          (record { label = c.step_label-label.result; masks = unpacked c.step_masks-masks.result }) step
          (sym (ap (edge_end (tasks_in r)) c.in_err-edge.was) ∙ c.edge_by.ensures.edge))
          ∙ l.invariant.followed;
      within = λ w e. absurd (none-some w e);
    })

pub overflow_add-kept : goal.overflow_add-kept
overflow_add-kept c =
    let bs = c.args.s.now in
    let parts = c.args.parts in
    let few = (placed long_reads bs (certificate_of long_reads bs parts) c.requires.read.read).few_steps in
    let size = items-length (step_in long_reads bs) parts.from step_size parts.steps in
    let fits = c.edge_by.ensures.fits c.in_ok-edge.edge c.in_ok-edge.was in
    record { fits = omega (arith, few, size, fits.kept, c.from-kept.ensures, c.loop-j.invariant.kept, c.loop-j-test.true) }

pub overflow_add-ideal : goal.overflow_add-ideal
overflow_add-ideal c =
    let bs = c.args.s.now in
    let parts = c.args.parts in
    let few = (placed long_reads bs (certificate_of long_reads bs parts) c.requires.read.read).few_steps in
    let size = items-length (step_in long_reads bs) parts.from step_size parts.steps in
    let fits = c.edge_by.ensures.fits c.in_ok-edge.edge c.in_ok-edge.was in
    record { fits = omega (arith, few, size, fits.ideal, c.loop-j.invariant.ideal, c.loop-j-test.true) }

pub loop-j-preserved : goal.loop-j-preserved
loop-j-preserved c =
    let l = c.loop-j in
    let a = c.args in
    let r = a.machine.now.rules in
    let bs = a.s.now in
    let P = plan_by r a.machine.now.next max_states in
    let ss = (certificate_of long_reads bs a.parts).steps in
    let size = items-length (step_in long_reads bs) a.parts.from step_size a.parts.steps in
    let step : record { label = c.step_label-label.result; masks = unpacked c.step_masks-masks.result } ≡ step_at ss l.j =
    λ i. record { label = c.step_label-label.ensures i; masks = c.step_masks-masks.ensures i } in
    let edge = c.in_ok-edge.edge in
    let fits = c.edge_by.ensures.fits edge c.in_ok-edge.was in record {
      cells = fits.cells;
      state = fits.state;
      taken = fits.taken;
      kept = omega (arith, fits.kept, l.invariant.kept, c.from-kept.ensures);
      ideal = omega (arith, fits.ideal, l.invariant.ideal);
      followed =
          ap (λ (n : ℕ). follow P (drop (l.j + 1) ss) (here (tasks_in r) edge.to (l.kept + n) (l.ideal + edge.ideal))) c.from-kept.ensures
          ∙ sym (step-taken P (tasks_in r) ss l.j (omega (arith, size, c.loop-j-test.true)) l.at l.kept l.ideal
          (record { label = c.step_label-label.result; masks = unpacked c.step_masks-masks.result }) step edge
          (sym (ap (edge_end (tasks_in r)) c.in_ok-edge.was) ∙ c.edge_by.ensures.edge))
          ∙ l.invariant.followed;
    }

pub returns : goal.returns
returns c =
    let l = c.loop-j in
    let a = c.args in
    let r = a.machine.now.rules in
    let bs = a.s.now in
    let ss = (certificate_of long_reads bs a.parts).steps in
    let size = items-length (step_in long_reads bs) a.parts.from step_size a.parts.steps in
    let at_end : Walked = record { at = l.at; kept = l.kept; ideal = l.ideal } in record {
      reached =
          sym (steps-done (plan_by r a.machine.now.next max_states) ss l.j (here (tasks_in r) l.at l.kept l.ideal) (omega (arith, size, c.loop-j-test.false)))
          ∙ l.invariant.followed;
      within = λ w e.
          subst (λ (v : Walked). Cells (tasks_in r) cell_count v.at.cells × (v.at.taken < mask_count)) (same_Some at_end w e) (l.invariant.cells, l.invariant.taken);
    }
