-- `policy::no_jobs` meets its contract: cells of 0 are no jobs.
-- Assumes nothing.
use Rattle.policy.specs.View.{cell_count}
use Rattle.policy.proofs.Cells.{empty-jobs, empty-cells}
use Rattle.policy.proofs.no_jobs.Goals as goal

pub returns : goal.returns
returns c = λ ts. record { jobs = empty-jobs ts cell_count; cells = empty-cells ts cell_count }
