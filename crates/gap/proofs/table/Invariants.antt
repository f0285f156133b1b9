-- `gap::table` meets its contract: each turn writes the entry of one pair.
-- Assumes nothing.
use mathlib.Core.Path.{◌≡◌}
use mathlib.Core.List.{map}
use Rattle.model.specs.Bytes.{overwrite}
use Rattle.model.specs.Lists.{up_from}
use Rattle.gap.specs.Automaton.{pair_entry}
use Rattle.gap.proofs.table.Given as goal

abbrev pub invariant-loop-k : goal.invariant-loop-k
invariant-loop-k l = l.next ≡ overwrite l.initial.next 0 (map (pair_entry l.gap) (up_from 0 l.k))
