-- The loop finds the greatest work.
use Rattle.std.proofs.Common.{◌≡◌, get_or}
use Rattle.policy.specs.View.{greatest}
use Rattle.policy.proofs.has_job.Given as goal

abbrev pub invariant-loop-work : goal.invariant-loop-work
invariant-loop-work l = l.most ≡ greatest (λ i. get_or l.cells i 0) l.work-index
