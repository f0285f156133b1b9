-- `exports::jovnetal_group_gap` meets its contract: the number of what the gap call for a set told; bytes were written where it is small.
-- Assumes nothing.
use Rattle.exports.proofs.Codes.{rewrites_as}
use Rattle.exports.proofs.jovnetal_group_gap.Goals as goal

pub returns : goal.returns
returns c = rewrites_as _ c.rewrite.ensures c.code.ensures
