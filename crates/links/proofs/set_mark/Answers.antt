-- `links::set_mark` meets its contract: one byte is the mark.
-- Assumes nothing.
use native.Mathlib.Omega.{arith}
use Rattle.links.proofs.Written.{byte_low, mark_written}
use Rattle.links.proofs.set_mark.Goals as goal

pub returns : goal.returns
returns c = mark_written _ _ c.args.mark c.requires.1 c.requires.0 _ (omega (arith, c.byte.ensures, byte_low c.args.mark))
