-- `certificate::Reader::potentials` meets its contract: before each potential the reading is those so far, and then what is read from there.
-- Assumes nothing.
use Rattle.std.proofs.Common.{arith, refl, sym, ap, subst, ◌≡◌, ◌∙◌, ℕ, ◌+◌}
use Rattle.model.specs.Certificate.{read_potentials}
use Rattle.certificate.specs.View.{potential_command, potential_size, potential_in}
use Rattle.certificate.proofs.Runs.{Reached, reached-start, reached-next, reached-all, reached-fault, has_room, potential-next, potential-fault}
use Rattle.certificate.proofs.Forms.{tested}
use Rattle.certificate.proofs.Reader.potentials.Goals as goal

pub loop-init : goal.loop-init
loop-init c = (refl, reached-start _ _ _ _ _ _ c.requires)

pub returns-then-not-has : goal.returns-then-not-has
returns-then-not-has c =
    let bs = c.args.self.src.now in
    let gone = tested c.loop.reader c.args.self.src.now c.loop.reader.at c.loop.invariant.0 refl potential_command potential_size c.has.ensures c.if-not-has.true in
    reached-fault _ _ _ _ _ _ _ _ c.loop.invariant.1 c.loop-test.true (potential-fault bs c.loop.reader.at gone)

pub loop-preserved : goal.loop-preserved
loop-preserved c =
    let bs = c.args.self.src.now in
    let at = c.loop.reader.at in
    let reached = c.loop.invariant.1 in
    let here = tested c.loop.reader c.args.self.src.now c.loop.reader.at c.loop.invariant.0 refl potential_command potential_size c.has.ensures c.if-not-has.false in (
      ap (λ s. s.now) c.past-reader.ensures.0 ∙ c.loop.invariant.0,
      subst (Reached read_potentials (potential_in bs) bs c.args.self.at potential_size c.args.n (c.loop.counter + 1)) (sym c.past-reader.ensures.1)
          (reached-next _ _ _ _ _ _ _ _ reached c.loop-test.true (has_room bs at potential_command potential_size reached.inside here) (potential-next bs at here)),
    )

pub returns : goal.returns
unfolding read_potentials
returns c =
    let bs = c.args.self.src.now in
    let all : c.loop.counter ≡ c.args.n = omega arith in
    let reached = subst (λ (k : ℕ). Reached read_potentials (potential_in bs) bs c.args.self.at potential_size c.args.n k c.loop.reader.at) all c.loop.invariant.1 in
    (record { bytes = c.loop.invariant.0; place = reached.place; inside = reached.inside }, reached-all _ _ _ _ _ _ _ _ reached (omega arith) refl)
