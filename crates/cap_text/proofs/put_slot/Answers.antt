-- `cap_text::put_slot` meets its contract: the line of a number of 64 bits has room.
-- Assumes nothing.
use native.Mathlib.Omega.{arith}
use Rattle.text.proofs.Decimal.{number-most}
use Rattle.cap_text.proofs.put_slot.Goals as goal

pub put_number_line-requires : goal.put_number_line-requires
put_number_line-requires c = omega (arith, number-most c.args.slot (omega arith))
