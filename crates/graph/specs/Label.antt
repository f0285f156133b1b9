-- What a label does at a node: the policy's slot, and the outcomes noted of its choices.
use Rattle.std.specs.Prelude as rust
use Rattle.std.specs.Prelude.{◌≡◌, IfSome, None, Some, List, map, ℕ, ◌<◌, ◌≤◌, length}
use Rattle.model.specs.Lists.{up_from}
use Rattle.policy.specs.View.{slot_cells, tasks_in, Slotted}
use Rattle.policy.specs.declared.Rules.{Rules}
use Rattle.graph.specs.Outcomes.{pattern_count, note_room, NotesFree, pattern_in, notes_in, noted_of, nothing_noted}
use Rattle.node.specs.declared.Node.{Node}
use Rattle.graph.specs.declared.Noted.{Noted}

-- the pattern that is wanted, `pattern_count` where none is
abbrev pub wanted_in : rust.Option ℕ → ℕ
wanted_in None = pattern_count
wanted_in (Some p) = p

-- the first k patterns in the notes
abbrev pub order_in : List ℕ → ℕ → List ℕ
order_in notes k = map (pattern_in notes) (up_from 0 k)

-- notes with so many patterns
pub record Readable (notes : List ℕ) (count : ℕ) : Type 0 where
  pub few : count ≤ pattern_count
  pub room : note_room ≤ length notes
  pub low : (k : ℕ) → k < count → pattern_in notes k < pattern_count

-- the slot is the rule's, the notes are of the label's choices with the masks of the wanted pattern, and every number behind them is as it was
pub record Reaches (r : Rules) (u : Node) (l wanted : ℕ) (before after : List ℕ) (d : Noted) : Type 0 where
  pub slot : Slotted r u.cells l d.done
  pub notes : notes_in after d.count ≡ noted_of (tasks_in r) l u.taken wanted nothing_noted
  pub readable : Readable after d.count
  pub only : NotesFree before after

-- and `ran` of its slot is None where no job ran
pub record ReachesBelow (r : Rules) (u : Node) (l wanted : ℕ) (before after : List ℕ) (d : Noted) : Type 0 where
  pub reaches : Reaches r u l wanted before after d
  pub below : IfSome d.done.ran (λ k. k < slot_cells)
