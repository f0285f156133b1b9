-- `potentials::label_holds` meets its contract, by whether the label is admitted. Assumes nothing.
use mathlib.Core.Path.{◌≡◌, sym, ap, ap₂, subst, ◌∙◌}
use Prim.Native.Nat.{ℕ, ◌*◌}
use native.Mathlib.Omega.{arith}
use lib.IntN.{pos, ◌+ℤ◌}
use mir.Syntax.{w64}
use mir.Val.{SFits, to_z, of_z}
use mir.Facts.{to_z-of_z}
use Rattle.model.specs.Check.{potential_at}
use Rattle.model.specs.Options.{option_of}
use Rattle.graph.specs.Outcomes.{pattern_count}
use Rattle.policy.specs.View.{tasks_in}
use Rattle.potentials.proofs.Numbers.{numbered-cells, numbered-low, numbered-taken}
use Rattle.potentials.proofs.Weights.{charge_small, high_fits, high-is}
use Rattle.potentials.proofs.Labels.{potential_small, label-not, label_charged, label-tested}
use Rattle.potentials.proofs.label_holds.Goals as goal

pub next-requires : goal.next-requires
next-requires c =
    let a = c.args in
    let g = c.requires.0 in
    numbered-low g.plan (tasks_in a.machine.now.rules) a.m.now a.claim.n g.test.holds g.test.planned.sound a.from.number a.from.node c.requires.1

pub returns-in_default-clause-value : goal.returns-in_default-clause-value
returns-in_default-clause-value c P d t = label-not t c.requires.1 c.args.from.label (sym (ap option_of c.in_default.is) ∙ c.next.ensures)

pub reach-noted-requires-clause-node : goal.reach-noted-requires-clause-node
reach-noted-requires-clause-node c =
    let a = c.args in
    let g = c.requires.0 in (
      numbered-cells g.plan (tasks_in a.machine.now.rules) a.m.now a.claim.n g.test.holds a.from.number a.from.node c.requires.1,
      numbered-taken g.plan (tasks_in a.machine.now.rules) a.m.now a.claim.n g.test.holds g.test.planned.sound a.from.number a.from.node c.requires.1,
    )

pub overflow_add-high : goal.overflow_add-high
overflow_add-high c =
    let a = c.args in
    let g = c.requires.0 in
    let z = potential_at g.certificate.potentials a.from.number in
    let sum : to_z w64 (of_z w64 c.potential.result) +ℤ to_z w64 (of_z w64 c.times-weight.result) ≡ z +ℤ pos (a.claim.fraction.q * c.from.result) =
    ap₂ (λ x y. x +ℤ y) (to_z-of_z {w = w64} (record { sfits = c.potential.type_inv }) ∙ c.potential.ensures g.certificate g.test.read)
    (to_z-of_z {w = w64} (record { sfits = c.times-weight.type_inv }) ∙ c.times-weight.ensures) in
    subst (SFits w64) (sym sum)
    (high_fits z (a.claim.fraction.q * c.from.result) (charge_small a.claim.fraction.q c.from.result g.test.fits_q (omega (arith, c.from.type_inv)))
    (potential_small g.test c.requires.1))

pub outcomes_hold-requires : goal.outcomes_hold-requires
outcomes_hold-requires c =
    let a = c.args in
    let g = c.requires.0 in
    let q = a.claim.fraction.q in
    let z = potential_at g.certificate.potentials a.from.number in
    let low = numbered-taken g.plan (tasks_in a.machine.now.rules) a.m.now a.claim.n g.test.holds g.test.planned.sound a.from.number a.from.node c.requires.1 in
    label_charged g.test c.requires.1 a.from.label c.in-Some.state (sym (ap option_of c.in-Some.is) ∙ c.next.ensures) a.machine.now.ruled low pattern_count
    a.notes.now c.reach-noted.new.notes c.reach-noted.result c.reach-noted.ensures.reaches _
    (high-is z q c.from.result (record { sfits = c.potential.type_inv }) (record { sfits = c.times-weight.type_inv })
    (c.potential.ensures g.certificate g.test.read) c.times-weight.ensures g.test.fits_q (omega (arith, c.from.type_inv)) (potential_small g.test c.requires.1)
    ∙ ap (λ (n : ℕ). z +ℤ pos (q * n)) c.from.ensures)
    (charge_small q c.reach-noted.result.done.gain g.test.fits_q (omega (arith, c.from.ensures, c.from.type_inv)))

pub returns-clause-value : goal.returns-clause-value
returns-clause-value c P d t =
    let a = c.args in
    let q = a.claim.fraction.q in
    let z = potential_at d.potentials a.from.number in
    let low = numbered-taken P (tasks_in a.machine.now.rules) a.m.now a.claim.n t.holds t.planned.sound a.from.number a.from.node c.requires.1 in
    c.outcomes_hold.ensures d t.read
    ∙ label-tested t c.requires.1 a.from.label c.in-Some.state (sym (ap option_of c.in-Some.is) ∙ c.next.ensures) a.machine.now.ruled low pattern_count
    a.notes.now c.reach-noted.new.notes c.reach-noted.result c.reach-noted.ensures.reaches _
    (high-is z q c.from.result (record { sfits = c.potential.type_inv }) (record { sfits = c.times-weight.type_inv })
    (c.potential.ensures d t.read) c.times-weight.ensures t.fits_q (omega (arith, c.from.type_inv)) (potential_small t c.requires.1)
    ∙ ap (λ (n : ℕ). z +ℤ pos (q * n)) c.from.ensures)
