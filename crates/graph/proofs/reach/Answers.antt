-- `graph::reach` meets its contract. Assumes nothing.
use mathlib.Core.Path.{◌≡◌, ap, ◌∙◌}
use mathlib.Core.List.{foldl}
use Rattle.words.proofs.Free.{only_trans}
use Rattle.policy.specs.View.{tasks_in}
use Rattle.graph.specs.Label.{wanted_in}
use Rattle.graph.specs.Outcomes.{Notes, outcomes, note, notes_in, noted_of, nothing_noted}
use Rattle.graph.proofs.Notes.{keeps_free}
use Rattle.graph.proofs.Labels.{label-readable}
use Rattle.graph.proofs.reach.Goals as goal

pub returns : goal.returns
returns c =
    let noted = c.note_choices-count in
    let cleared = c.clear_notes in
    let a = c.args in
    let ts = tasks_in a.rules.now in
    let w = wanted_in a.wanted in
    let taken = a.node.now.taken in
    let after = noted.new.notes in
    let notes : notes_in after noted.result ≡ noted_of ts a.label taken w nothing_noted =
    noted.ensures.notes ∙ ap (λ (n : Notes). foldl (note w) n (outcomes ts a.label taken)) cleared.ensures.notes in
    record {
      reaches = record {
        slot = c.slot-done.ensures.slotted;
        notes = notes;
        readable = label-readable ts c.requires.ruled.tasks a.label taken w c.requires.node.1 after noted.result notes noted.ensures.room;
        only = only_trans cleared.ensures.only (keeps_free noted.ensures.keeps);
      };
      below = c.slot-done.ensures.below;
    }
