-- `text::put_bytes` meets its contract: the part that is copied into is written.
-- Assumes nothing.
use mathlib.Core.Path.{refl}
use lib.ListN.{length}
use Rattle.words.proofs.Std.{part-written}
use Rattle.text.proofs.put_bytes.Goals as goal

pub returns : goal.returns
returns c =
    let a = c.args in
    record { bytes = part-written a.at (length a.bytes.now) a.out.now _ a.bytes.now c.copy_from_slice.ensures.after refl; next = refl }
