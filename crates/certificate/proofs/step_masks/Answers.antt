-- `certificate::step_masks` meets its contract: a certificate's steps stand within its bytes.
-- Assumes nothing.
use Rattle.std.proofs.Common.{arith, sym, ap, ◌∙◌, ◌+◌, ◌*◌}
use Rattle.model.specs.Edition.{long_reads}
use Rattle.words.specs.Packed.{unpacked}
use Rattle.certificate.specs.View.{step_size}
use Rattle.certificate.proofs.Placed.{step-read, step-inside, step-packed}
use Rattle.certificate.proofs.step_masks.Goals as goal

pub overflow_mul-j : goal.overflow_mul-j
overflow_mul-j c = omega (arith, step-inside long_reads c.args.s.now c.args.parts c.args.j c.requires.0 c.requires.1)

pub overflow_add-parts : goal.overflow_add-parts
overflow_add-parts c = omega (arith, step-inside long_reads c.args.s.now c.args.parts c.args.j c.requires.0 c.requires.1)

pub overflow_add-parts-2 : goal.overflow_add-parts-2
overflow_add-parts-2 c = omega (arith, step-inside long_reads c.args.s.now c.args.parts c.args.j c.requires.0 c.requires.1)

pub read_u64-requires : goal.read_u64-requires
read_u64-requires c = omega (arith, step-inside long_reads c.args.s.now c.args.parts c.args.j c.requires.0 c.requires.1)

pub returns : goal.returns
returns c =
    let bs = c.args.s.now in
    let parts = c.args.parts in
    let at = parts.from + step_size * c.args.j in
    ap unpacked c.read_u64.ensures
    ∙ step-packed bs at (λ i. (c.type_inv.s i).fits) (step-inside long_reads bs parts c.args.j c.requires.0 c.requires.1)
    ∙ sym (ap (λ s. s.masks) (step-read long_reads bs parts c.args.j c.requires.1))
