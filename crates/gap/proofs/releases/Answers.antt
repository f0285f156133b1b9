-- `gap::releases` meets its contract: the ones of set and label are counted.
-- Assumes nothing.
use native.Mathlib.Omega.{arith}
use lib.Bits.{and_le_l}
use Rattle.gap.proofs.Automaton.{releases-counted}
use Rattle.gap.proofs.releases.Goals as goal

pub overflow_cast-result : goal.overflow_cast-result
overflow_cast-result c = omega (arith, and_le_l c.args.set c.args.label)

pub returns : goal.returns
returns c = releases-counted c.args.set c.args.label (omega arith)
