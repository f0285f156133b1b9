-- `certificate::potential` meets its contract: a certificate's potentials stand within its bytes.
-- Assumes nothing.
use Rattle.std.proofs.Common.{arith, ◌∙◌, w64}
use mir.Facts.{to_z-of_z}
use Rattle.certificate.proofs.Placed.{potential-inside, potential-read}
use Rattle.certificate.proofs.potential.Goals as goal

pub overflow_mul-i : goal.overflow_mul-i
overflow_mul-i c = omega (arith, potential-inside c.args.s.now c.args.i c.requires)

pub overflow_add-i : goal.overflow_add-i
overflow_add-i c = omega (arith, potential-inside c.args.s.now c.args.i c.requires)

pub overflow_add-i-2 : goal.overflow_add-i-2
overflow_add-i-2 c = omega (arith, potential-inside c.args.s.now c.args.i c.requires)

pub read_i64-requires : goal.read_i64-requires
read_i64-requires c = omega (arith, potential-inside c.args.s.now c.args.i c.requires)

pub returns : goal.returns
returns c d e =
    to_z-of_z {w = w64} (record { sfits = c.read_i64.type_inv }) ∙ c.read_i64.ensures ∙ potential-read c.args.s.now c.args.i c.requires d e
