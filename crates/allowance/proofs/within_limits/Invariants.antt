-- `allowance::within_limits` meets its contract: one potential after another. Assumes nothing.
use Rattle.std.proofs.Common.{◌≡◌, drop}
use Rattle.model.specs.Check.{within_limit}
use Rattle.model.specs.Lists.{all}
use Rattle.certificate.specs.View.{potentials_in}
use Rattle.allowance.proofs.within_limits.Given as goal

abbrev pub invariant-loop-i : goal.invariant-loop-i
invariant-loop-i l =
    let zs = potentials_in l.s l.fn.parts.count in
    all within_limit zs ≡ all within_limit (drop l.i zs)
