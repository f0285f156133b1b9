-- `gap::with_gap` meets its contract: the table's arcs are the automaton's.
-- Assumes nothing.
use Rattle.gap.proofs.Automaton.{replaced-plan}
use Rattle.gap.proofs.with_gap.Goals as goal

pub returns : goal.returns
returns c = let a = c.args in replaced-plan a.plan a.set a.slots c.table-next.result c.table-next.ensures c.requires.0 c.requires.1
