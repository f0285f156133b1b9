-- `policy::widen` meets its contract: the cells stand over the front of free ones.
-- Assumes nothing.
use Rattle.std.proofs.Common.{ap, ◌++◌, replicate}
use Rattle.model.specs.Limits.{max_tasks}
use Rattle.policy.proofs.widen.Goals as goal

pub returns : goal.returns
returns c = let h = c.copy_from_slice.ensures.after in ap (λ cells. cells ++ replicate max_tasks 0) c.copy_from_slice.ensures.after
