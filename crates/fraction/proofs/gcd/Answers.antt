-- `fraction::gcd` meets its contract: each turn keeps the greatest common divisor (`gcd-mod`).
-- Assumes nothing.
use Rattle.std.proofs.Common.{arith, sym, ap, ◌∙◌}
use native.Mathlib.Nat.{mod-lt}
use Rattle.model.specs.Check.{gcd}
use Rattle.theory.proofs.Divisors.{gcd-zero, gcd-mod}
use Rattle.fraction.proofs.gcd.Goals as goal

pub loop-y-smaller : goal.loop-y-smaller
loop-y-smaller c = mod-lt c.loop-y.x (omega (arith, c.loop-y-test.true))

pub loop-y-preserved : goal.loop-y-preserved
loop-y-preserved c = sym (gcd-mod c.loop-y.x c.loop-y.y (omega (arith, c.loop-y-test.true))) ∙ c.loop-y.invariant

pub returns : goal.returns
returns c = let x = c.loop-y.x in sym (gcd-zero x) ∙ ap (gcd x) (sym c.loop-y-test.false) ∙ c.loop-y.invariant
