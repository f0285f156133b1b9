-- `exports::refusal_code` meets its contract: a refusal's number is small.
-- Assumes nothing.
use native.Mathlib.Omega.{arith}
use Rattle.refusals.proofs.Small.{refusal_small}
use Rattle.exports.proofs.refusal_code.Goals as goal

pub overflow_add-result : goal.overflow_add-result
overflow_add-result c = omega (arith, c.number.ensures, refusal_small c.args.r)
