-- `words::copy` meets its contract: the part that is copied into is written. Assumes nothing.
use mathlib.Core.Path.{◌≡◌, ap, ◌∙◌}
use Prim.Native.Nat.{◌+◌, ◌-◌}
use native.Mathlib.Omega.{arith}
use Rattle.model.specs.Bytes.{part}
use Rattle.words.proofs.Memory.{part_length}
use Rattle.words.proofs.Std.{part-written}
use Rattle.words.proofs.copy.Goals as goal

pub returns : goal.returns
returns c =
    let a = c.args in
    let n : a.from + a.n - a.from ≡ a.n = omega arith in
    part-written a.at a.n a.dst.now _ (part a.src.now a.from a.n) (c.copy_from_slice.ensures.after ∙ ap (part a.src.now a.from) n)
    (part_length a.src.now a.from a.n c.requires.n_in_bounds)
