-- `graph::note` meets its contract: the outcome is not better, or better, or the first of its pattern.
-- Assumes nothing.
use native.Mathlib.Omega.{arith}
use Rattle.graph.specs.Label.{wanted_in}
use Rattle.graph.proofs.Notes.{free, noting_less, noting_better, noting_first}
use Rattle.graph.proofs.note.Goals as goal

pub returns-then-gain-score : goal.returns-then-gain-score
returns-then-gain-score c =
    let a = c.args in
    noting_less a.notes.now a.count c.requires.0 (wanted_in a.wanted) a.pattern a.gain a.masks c.requires.1 (omega arith)

pub returns-then-score-ne0 : goal.returns-then-score-ne0
returns-then-score-ne0 c =
    let a = c.args in
    rw c.put_masks.ensures
    (noting_better a.notes.now a.count c.requires.0 (wanted_in a.wanted) a.pattern a.gain a.masks c.requires.1 (omega arith) c.if-score-ne0.true)

pub overflow_add-notes-2 : goal.overflow_add-notes-2
overflow_add-notes-2 c =
    omega (arith, free c.args.notes.now c.args.count c.requires.0 (wanted_in c.args.wanted) c.args.pattern c.args.gain c.args.masks c.requires.1 c.if-score-ne0.false)

pub offset_bounds-notes-count : goal.offset_bounds-notes-count
offset_bounds-notes-count c =
    omega (arith, free c.args.notes.now c.args.count c.requires.0 (wanted_in c.args.wanted) c.args.pattern c.args.gain c.args.masks c.requires.1 c.if-score-ne0.false)

pub bounds-notes-count : goal.bounds-notes-count
bounds-notes-count c =
    omega (arith, free c.args.notes.now c.args.count c.requires.0 (wanted_in c.args.wanted) c.args.pattern c.args.gain c.args.masks c.requires.1 c.if-score-ne0.false)

pub overflow_add-result : goal.overflow_add-result
overflow_add-result c =
    omega (arith, free c.args.notes.now c.args.count c.requires.0 (wanted_in c.args.wanted) c.args.pattern c.args.gain c.args.masks c.requires.1 c.if-score-ne0.false)

pub returns : goal.returns
returns c =
    let a = c.args in
    rw c.put_masks.ensures
    (noting_first a.notes.now a.count c.requires.0 (wanted_in a.wanted) a.pattern a.gain a.masks c.requires.1 c.if-score-ne0.false)
