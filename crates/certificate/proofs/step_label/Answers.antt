-- `certificate::step_label` meets its contract: a certificate's steps stand within its bytes.
-- Assumes nothing.
use Rattle.std.proofs.Common.{arith, sym, ap}
use Rattle.model.specs.Edition.{long_reads}
use Rattle.certificate.proofs.Placed.{step-read, step-inside}
use Rattle.certificate.proofs.step_label.Goals as goal

pub overflow_mul-result : goal.overflow_mul-result
overflow_mul-result c = omega (arith, step-inside long_reads c.args.s.now c.args.parts c.args.j c.requires.0 c.requires.1)

pub overflow_add-result : goal.overflow_add-result
overflow_add-result c = omega (arith, step-inside long_reads c.args.s.now c.args.parts c.args.j c.requires.0 c.requires.1)

pub overflow_add-result-2 : goal.overflow_add-result-2
overflow_add-result-2 c = omega (arith, step-inside long_reads c.args.s.now c.args.parts c.args.j c.requires.0 c.requires.1)

pub bounds-s-parts : goal.bounds-s-parts
bounds-s-parts c = omega (arith, step-inside long_reads c.args.s.now c.args.parts c.args.j c.requires.0 c.requires.1)

pub returns : goal.returns
returns c = sym (ap (λ s. s.label) (step-read long_reads c.args.s.now c.args.parts c.args.j c.requires.1))
