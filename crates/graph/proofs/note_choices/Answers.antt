-- `graph::note_choices` meets its contract: the recursion starts with no mask, at the first task.
-- Assumes nothing.
use mathlib.Core.Path.{subst₂, ap}
use mathlib.Core.List.{List}
use Prim.Native.Nat.{ℕ}
use native.Mathlib.Omega.{arith}
use Rattle.graph.specs.Label.{wanted_in}
use Rattle.graph.specs.Outcomes.{Outcome, lists_at, Noting}
use Rattle.graph.proofs.Offered.{offers-sound, offered-all}
use Rattle.graph.proofs.note_choices.Goals as goal

pub note_task-requires : goal.note_task-requires
note_task-requires c = (
  c.table-table.ensures,
  offers-sound c.requires.ruled.tasks c.offers_of-offers.ensures,
  record { task = omega arith; pattern = c.requires.room.0; gain = omega arith; masks = omega arith },
  c.requires.room.1,
)

pub returns : goal.returns
returns c =
    let o = c.offers_of-offers.ensures in
    subst₂ (λ (w : ℕ) (os : List Outcome). Noting w os lists_at c.args.notes.now 0 c.note_task.new.notes c.note_task.result)
    (ap wanted_in o.wanted) (offered-all c.requires.ruled.tasks o c.args.taken) c.note_task.ensures
