-- `combine::follow` meets its contract: the label leads nowhere, or to a pair that joins.
-- Assumes nothing.
use Rattle.combine.proofs.Growing.{followed_some}
use Rattle.combine.proofs.follow.Goals as goal

pub returns : goal.returns
returns c =
    followed_some _ _ _ _ _ _ _ c.lead.result c.in-Some.to c.join.result c.lead.ensures c.in-Some.is c.join.ensures c.in_ok-known.known c.in_ok-known.was
