-- `words::fill` meets its contract: the part that is filled is written. Assumes nothing.
use mathlib.Core.Path.{◌≡◌, ap, ◌∙◌}
use Prim.Native.Nat.{ℕ, ◌+◌, ◌-◌}
use native.Mathlib.Omega.{arith}
use lib.ListN.{length, replicate, length-replicate}
use Rattle.model.specs.Bytes.{part}
use Rattle.words.proofs.Memory.{part_length}
use Rattle.words.proofs.Std.{part-written}
use Rattle.words.proofs.fill.Goals as goal

pub returns : goal.returns
returns c =
    let a = c.args in
    let k = a.at + a.n - a.at in
    let n : length (part a.s.now a.at k) ≡ a.n = omega (arith, part_length a.s.now a.at k (omega arith)) in
    part-written a.at a.n a.s.now _ (replicate a.n a.b) (c.fill.ensures.after (λ y e. e) ∙ ap (λ (m : ℕ). replicate m a.b) n) (length-replicate a.n a.b)
