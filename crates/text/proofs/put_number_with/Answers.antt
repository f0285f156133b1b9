-- `text::put_number_with` meets its contract: a number, and the bytes behind it.
-- Assumes nothing.
use native.Mathlib.Omega.{arith}
use lib.ListN.{length-append}
use Rattle.model.specs.Text.{decimal}
use Rattle.words.proofs.Put.{put_join}
use Rattle.text.proofs.put_number_with.Goals as goal

pub put_number-number-requires : goal.put_number-number-requires
put_number-number-requires c = omega (arith, c.requires, length-append (decimal c.args.n) c.args.tail.now)

pub put_bytes-requires : goal.put_bytes-requires
put_bytes-requires c =
    omega (arith, c.requires, length-append (decimal c.args.n) c.args.tail.now, c.put_number-number.ensures.next)

pub returns : goal.returns
returns c =
    put_join _ _ _ _ _ _ _ _ (omega (arith, c.requires, length-append (decimal c.args.n) c.args.tail.now)) c.put_number-number.ensures c.put_bytes.ensures
