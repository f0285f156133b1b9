-- `allowance::allowance` meets its contract: the smallest of the potentials so far. Assumes nothing.
use Rattle.std.proofs.Common.{◌≡◌, drop}
use Rattle.model.specs.Check.{potential_at, least}
use Rattle.certificate.specs.View.{potentials_in}
use Rattle.allowance.proofs.allowance.Given as goal

abbrev pub invariant-loop-i : goal.invariant-loop-i
invariant-loop-i l =
    let zs = potentials_in l.s l.fn.parts.count in
    least (drop l.i zs) l.least ≡ least zs (potential_at zs 0)
