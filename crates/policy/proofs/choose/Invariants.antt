-- The loop finds the least code.
use Rattle.std.proofs.Common.{◌≡◌}
use Rattle.policy.specs.View.{code_at, least_code}
use Rattle.policy.proofs.choose.Given as goal

abbrev pub invariant-loop-k : goal.invariant-loop-k
invariant-loop-k l = l.best ≡ least_code (code_at l.policy l.cells l.left) l.k
