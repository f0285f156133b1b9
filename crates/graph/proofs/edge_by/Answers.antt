-- `graph::edge_by` meets its contract, by whether the label is admitted and the masks are a choice's.
-- Assumes nothing.
use mathlib.Core.Path.{◌≡◌, refl, sym, ap, subst}
use mathlib.Core.Option.{none, some}
use native.Mathlib.Omega.{arith}
use Rattle.model.specs.Limits.{max_value, max_states}
use Rattle.model.specs.Slot.{Done, slot}
use Rattle.words.specs.Packed.{unpacked}
use Rattle.policy.specs.View.{jobs_of, tasks_in, done_of}
use Rattle.policy.proofs.Gain.{gain-most}
use Rattle.graph.specs.Edge.{EdgeFits, Stepped}
use Rattle.graph.specs.View.{plan_by}
use Rattle.graph.specs.declared.Edge.{Edge}
use Rattle.graph.proofs.Edges.{edge_none, edge-some, stepped-none}
use Rattle.graph.proofs.edge_by.Goals as goal

pub returns-in_err-state : goal.returns-in_err-state
returns-in_err-state c =
    let a = c.args in
    let m = a.machine.now in
    let u = a.node.now in
    let given = unpacked a.masks in
    subst (Stepped m.next m.rules u a.label given) (sym c.from_residual.ensures)
    (stepped-none m.next m.rules u a.label given (edge_none m.rules m.ruled.size m.next c.requires.table u a.label given c.in_err-state.ensures))

pub returns-in_err-lead : goal.returns-in_err-lead
returns-in_err-lead c =
    let a = c.args in
    let m = a.machine.now in
    let u = a.node.now in
    let given = unpacked a.masks in
    subst (Stepped m.next m.rules u a.label given) (sym c.from_residual-in_err-lead.ensures)
    (stepped-none m.next m.rules u a.label given
    (edge-some m.rules m.ruled.size m.next c.requires.table u a.label given c.in_ok-state.state c.in_ok-state.ensures
    (slot (plan_by m.rules m.next max_states) (jobs_of (tasks_in m.rules) u.cells) a.label) refl none c.in_err-lead.ensures.led))

pub returns : goal.returns
returns c =
    let a = c.args in
    let m = a.machine.now in
    let u = a.node.now in
    let ts = tasks_in m.rules in
    let P = plan_by m.rules m.next max_states in
    let rule = c.slot-done.ensures.slotted.rule P refl refl in
    let lead = c.in_ok-lead.lead in
    let fits = c.in_ok-lead.ensures.fits lead refl in
    let edge : Edge = record {
      to = record { cells = c.slot-done.result.cells; taken = lead.pattern; state = c.in_ok-state.state };
      kept = c.slot-done.result.gain;
      ideal = lead.gain;
    } in
    let within : EdgeFits ts edge = record {
      cells = c.slot-done.ensures.slotted.cells;
      state = m.states.to u.state a.label c.in_ok-state.state (sym c.in_ok-state.ensures);
      taken = omega (arith, fits.pattern);
      kept =
          omega (
            arith,
            ap (λ (d : Done). d.gain) rule,
            gain-most P (jobs_of ts u.cells) a.label max_value (λ i h. (m.ruled.tasks.each i h).value),
          );
      ideal = fits.gain;
    } in record {
      edge =
          sym
          (edge-some m.rules m.ruled.size m.next c.requires.table u a.label (unpacked a.masks) c.in_ok-state.state c.in_ok-state.ensures
          (done_of ts c.slot-done.result) rule (some (record { pattern = lead.pattern; gain = lead.gain })) c.in_ok-lead.ensures.led);
      fits = λ e is. let same : edge ≡ e = cc in subst (EdgeFits ts) same within;
    }
