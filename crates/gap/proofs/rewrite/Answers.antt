-- `gap::rewrite` meets its contract: a group's gap is that of the set of its tasks.
-- Assumes nothing.
use Rattle.gap.proofs.Groups.{by_set}
use Rattle.gap.proofs.rewrite.Goals as goal

pub returns : goal.returns
returns c =
    by_set c.set_of.ensures c.rewrite_set.ensures
