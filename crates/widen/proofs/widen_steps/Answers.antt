-- `widen::widen_steps` meets its contract: before each step those so far are written.
-- Assumes nothing.
use Rattle.std.proofs.Common.{arith, refl, ap, ◌≡◌, ◌∙◌, ℕ, ◌+◌, ◌*◌}
use Rattle.model.specs.Edition.{first_edition, long_reads}
use Rattle.model.specs.Bytes.{overwrite}
use Rattle.model.specs.Certificate.{step_bytes, step_width}
use Rattle.certificate.specs.View.{step_size, step_in}
use Rattle.widen.proofs.Steps.{written, written_none, written-more}
use Rattle.widen.proofs.widen_steps.Goals as goal

pub loop-i-init : goal.loop-i-init
loop-i-init c = (refl, written_none first_edition long_reads c.args.s.now c.args.from c.args.out.now c.args.at)

pub loop-i-preserved : goal.loop-i-preserved
loop-i-preserved c =
    let a = c.args in
    let i = c.loop-i.i in (
      c.widen_step.auto.out ∙ c.loop-i.invariant.0,
      c.widen_step.ensures
          ∙ ap (λ m. overwrite m (a.at + step_size * i) (step_bytes long_reads (step_in first_edition a.s.now (a.from + step_width first_edition * i)))) c.loop-i.invariant.1
          ∙ written-more first_edition long_reads a.s.now a.from a.out.now a.at i (omega (arith, c.requires.n_in_bounds_2, c.loop-i-test.true)),
    )

pub returns : goal.returns
returns c =
    let all : c.loop-i.i ≡ c.args.n = omega arith in
    c.loop-i.invariant.1 ∙ ap (λ (k : ℕ). overwrite c.args.out.now c.args.at (written first_edition long_reads c.args.s.now c.args.from k)) all
