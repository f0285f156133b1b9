-- `certificate::Reader::steps` meets its contract: before each step the reading is those so far, and then what is read from there.
-- Assumes nothing.
use Rattle.std.proofs.Common.{arith, refl, sym, ap, subst, ◌≡◌, ◌∙◌, ℕ, ◌+◌, ◌-◌, ◌≤◌, ◌<◌, length}
use Rattle.model.specs.Limits.{max_steps}
use Rattle.model.specs.Certificate.{step_width, read_steps}
use Rattle.certificate.specs.View.{step_command, step_in}
use Rattle.certificate.proofs.Runs.{Reached, reached-start, reached-next, reached-end, reached-all, reached-fault, step-next, step-fault, step-none}
use Rattle.certificate.proofs.Forms.{tested}
use Rattle.certificate.proofs.Reader.steps.Goals as goal

pub loop-i-init : goal.loop-i-init
loop-i-init c = (refl, c.requires, λ e z. reached-start _ _ _ _ _ _ c.requires)

pub returns-then-not-has : goal.returns-then-not-has
returns-then-not-has c e z =
    let bs = c.args.self.src.now in
    let reached = c.loop-i.invariant.2 e z in
    let gone = tested c.loop-i.reader c.args.self.src.now c.loop-i.reader.at c.loop-i.invariant.0 refl step_command 1 c.has.ensures c.if-not-has.true in (
      record { bytes = c.loop-i.invariant.0; place = reached.place; inside = reached.inside },
      reached-end _ _ _ _ _ _ _ _ reached (step-none e bs c.loop-i.reader.at gone _),
    )

pub returns-then-left-size : goal.returns-then-left-size
returns-then-left-size c e z =
    let bs = c.args.self.src.now in
    let at = c.loop-i.reader.at in
    let here = tested c.loop-i.reader c.args.self.src.now c.loop-i.reader.at c.loop-i.invariant.0 refl step_command 1 c.has.ensures c.if-not-has.false in
    let short : length bs - at < step_width e = omega (arith, c.if-left-size.true, c.left.ensures, ap length c.loop-i.invariant.0, z) in
    reached-fault _ _ _ _ _ _ _ _ (c.loop-i.invariant.2 e z) c.loop-i-test.true (step-fault e bs at here short)

pub loop-i-preserved : goal.loop-i-preserved
loop-i-preserved c =
    let bs = c.args.self.src.now in
    let at = c.loop-i.reader.at in
    let here = tested c.loop-i.reader c.args.self.src.now c.loop-i.reader.at c.loop-i.invariant.0 refl step_command 1 c.has.ensures c.if-not-has.false in
    let room : c.args.size ≤ length bs - at = omega (arith, c.if-left-size.false, c.left.ensures, ap length c.loop-i.invariant.0) in (
      ap (λ s. s.now) c.past-reader.ensures.0 ∙ c.loop-i.invariant.0,
      omega (arith, c.past-reader.ensures.1, c.loop-i.invariant.1, room),
      λ e z.
          let reached = c.loop-i.invariant.2 e z in
          let fits : step_width e ≤ length bs - at = omega (arith, room, z) in
          subst (Reached (read_steps e) (step_in e bs) bs c.args.self.at (step_width e) max_steps (c.loop-i.i + 1))
          (sym (c.past-reader.ensures.1 ∙ ap (λ (k : ℕ). at + k) z))
          (reached-next _ _ _ _ _ _ _ _ reached c.loop-i-test.true (omega (arith, reached.inside, fits)) (step-next e bs at here fits)),
    )

pub returns : goal.returns
unfolding read_steps
returns c e z =
    let bs = c.args.self.src.now in
    let all : c.loop-i.i ≡ max_steps = omega arith in
    let reached = subst (λ (k : ℕ). Reached (read_steps e) (step_in e bs) bs c.args.self.at (step_width e) max_steps k c.loop-i.reader.at) all (c.loop-i.invariant.2 e z) in
    (record { bytes = c.loop-i.invariant.0; place = reached.place; inside = reached.inside }, reached-all _ _ _ _ _ _ _ _ reached (omega arith) refl)
