-- `links::begin` meets its contract: no link, and then the start node's.
-- Assumes nothing.
use Rattle.links.proofs.Cleared.{begins}
use Rattle.links.proofs.begin.Goals as goal

pub returns : goal.returns
returns c = begins _ c.requires _ _ c.fill.ensures c.put_link.ensures.puts
