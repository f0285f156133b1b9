-- `words::write_i64` meets its contract: the number, in two's complement. Assumes nothing.
use mathlib.Core.Path.{ap, ◌∙◌}
use Prim.Native.Nat.{ℕ}
use mir.Facts.{to_z-of_z}
use Rattle.model.specs.Bytes.{bytes, complement, overwrite}
use Rattle.words.proofs.Std.{complement-cast}
use Rattle.words.proofs.write_i64.Goals as goal

pub returns : goal.returns
returns c =
    let a = c.args in
    c.write_u64.ensures
    ∙ ap (λ (n : ℕ). overwrite a.s.now a.at (bytes 8 n)) (c.cast_unsigned.ensures ∙ complement-cast _ ∙ ap complement (to_z-of_z c.ranges.v))
