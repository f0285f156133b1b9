-- `fraction::Fraction::lowest` meets its contract: both divided by the greatest common divisor. Assumes nothing.
use Rattle.std.proofs.Common.{sym, subst, ℕ, ◌<◌}
use Rattle.theory.proofs.Divisors.{gcd-pos-right}
use Rattle.fraction.proofs.Fraction.lowest.Goals as goal

-- the divisor is above 0
pub nonzero_div-result : goal.nonzero_div-result
nonzero_div-result c = subst (λ (g : ℕ). 0 < g) (sym c.gcd-g.ensures) (gcd-pos-right c.args.kept c.args.ideal c.requires)

pub nonzero_div-result-2 : goal.nonzero_div-result-2
nonzero_div-result-2 c = subst (λ (g : ℕ). 0 < g) (sym c.gcd-g.ensures) (gcd-pos-right c.args.kept c.args.ideal c.requires)
