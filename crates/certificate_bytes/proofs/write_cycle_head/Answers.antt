-- `certificate_bytes::write_cycle_head` meets its contract: a command, and the bytes after it.
-- Assumes nothing.
use Rattle.std.proofs.Common.{arith, ◌∙◌}
use Rattle.words.proofs.Memory.{overwrite-cons}
use Rattle.words.proofs.Numbers.{bytes-length}
use Rattle.certificate_bytes.proofs.write_cycle_head.Goals as goal

pub returns : goal.returns
returns c = c.write_u16.ensures ∙ overwrite-cons _ _ _ _ (omega (arith, c.requires, bytes-length 2 c.args.node))
