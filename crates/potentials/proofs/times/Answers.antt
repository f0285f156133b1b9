-- `potentials::times` meets its contract: the product fits. Assumes nothing.
use mathlib.Core.Path.{ap₂, ◌∙◌}
use Prim.Native.Nat.{◌*◌}
use native.Mathlib.Omega.{arith}
use mir.Syntax.{w64}
use mir.Val.{to_z}
use mir.Facts.{to_z_pos}
use Rattle.potentials.proofs.Weights.{charge_small}
use Rattle.potentials.proofs.times.Goals as goal

pub returns : goal.returns
returns c =
    ap₂ (λ x y. to_z w64 (x * y)) c.from.ensures c.from-2.ensures
    ∙ to_z_pos w64 (omega (arith, charge_small c.args.price c.args.gain c.requires c.ranges.gain.fits))
