-- `text::put_number` meets its contract: the fewest digits are the decimal text.
-- Assumes nothing.
use mathlib.Core.Path.{ap, ◌∙◌}
use native.Mathlib.Omega.{arith}
use lib.ListN.{length}
use Rattle.words.proofs.Put.{put_as}
use Rattle.text.proofs.Decimal.{digits_decimal}
use Rattle.text.proofs.put_number.Goals as goal

pub put_bytes-requires : goal.put_bytes-requires
put_bytes-requires c =
    let e = c.decimal-k.ensures in
    omega (arith, ap length (e.digits ∙ digits_decimal _ _ e.len), c.requires)

pub returns : goal.returns
returns c =
    let e = c.decimal-k.ensures in
    put_as (e.digits ∙ digits_decimal _ _ e.len) c.put_bytes.ensures
