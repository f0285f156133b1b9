-- Any other write is refused.
use Rattle.std.proofs.Common.{refl, arith}
use Rattle.controller.proofs.Writes.{refused-byte, refused-value}
use Rattle.controller.proofs.Action.of.Goals as goal

pub returns-else-value-eq-GO : goal.returns-else-value-eq-GO
returns-else-value-eq-GO c =
    let byte = c.args.byte in
    (refl, refused-value byte c.args.value (λ e. omega (arith, c.in-1.is, e)) (λ e. omega (arith, c.in-1.is, e)) c.in-1.is c.if-value-eq-GO.false)

pub returns-in_default : goal.returns-in_default
returns-in_default c =
    (refl, refused-byte c.args.byte c.args.value (λ e. omega (arith, e)) (λ e. omega (arith, e)) (λ e. omega (arith, e)))
