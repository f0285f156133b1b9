-- `words::write_u32` meets its contract: std's four bytes of a number are the model's. Assumes nothing.
use mathlib.Core.Path.{◌∙◌}
use Rattle.words.proofs.Numbers.{bytes-length}
use Rattle.words.proofs.Std.{part-written, high_first}
use Rattle.words.proofs.write_u32.Goals as goal

pub returns : goal.returns
returns c =
    let v = c.args.v in
    part-written _ 4 _ _ _ (c.copy_from_slice.ensures.after ∙ c.to_be_bytes.ensures ∙ high_first 4 v) (bytes-length 4 v)
