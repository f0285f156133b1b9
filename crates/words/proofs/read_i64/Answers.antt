-- `words::read_i64` meets its contract: the number, in two's complement. Assumes nothing.
use mathlib.Core.Path.{ap, ◌∙◌}
use mir.Syntax.{w64}
use mir.Facts.{to_z-of_z}
use Rattle.model.specs.Bytes.{signed}
use Rattle.words.proofs.Std.{signed-cast}
use Rattle.words.proofs.read_i64.Goals as goal

pub returns : goal.returns
returns c =
    to_z-of_z {w = w64} (record { sfits = c.cast_signed.type_inv }) ∙ c.cast_signed.ensures ∙ signed-cast c.read_u64.result ∙ ap signed c.read_u64.ensures
