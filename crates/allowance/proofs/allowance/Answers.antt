-- `allowance::allowance` meets its contract: the smallest of the potentials so far. Assumes nothing.
use Rattle.std.proofs.Common.{arith, sym, ap, ◌∙◌, ◌+◌, ℤ, ◌-ℤ◌, w64, to_z, List, drop}
use Rattle.std.specs.Int.{int_min}
use lib.IntN.{nat_abs}
use lib.ListN.{drop_of_length-le}
use mir.Facts.{to_z-of_z}
use Rattle.model.specs.Edition.{long_reads}
use Rattle.model.specs.Check.{least, allowance}
use Rattle.certificate.specs.View.{potentials_in, certificate_of}
use Rattle.allowance.proofs.Least.{potentials-length, some_potential, there, least-next}
use Rattle.allowance.proofs.allowance.Goals as goal

pub potential-first-requires : goal.potential-first-requires
potential-first-requires c = there c.args.s.now c.args.parts c.requires 0 (some_potential c.args.s.now c.args.parts c.requires)

pub loop-i-init : goal.loop-i-init
loop-i-init c =
    let bs = c.args.s.now in
    let parts = c.args.parts in
    let zs = potentials_in bs parts.count in
    ap (least zs) (to_z-of_z {w = w64} (record { sfits = c.potential-first.type_inv }) ∙ c.potential-first.ensures (certificate_of long_reads bs parts) c.requires.read)

pub potential-requires : goal.potential-requires
potential-requires c = there c.args.s.now c.args.parts c.requires c.loop-i.i c.loop-i-test.true

pub loop-i-preserved : goal.loop-i-preserved
loop-i-preserved c =
    let bs = c.args.s.now in
    let parts = c.args.parts in
    let zs = potentials_in bs parts.count in
    let i = c.loop-i.i in
    let z = to_z-of_z {w = w64} (record { sfits = c.potential.type_inv }) ∙ c.potential.ensures (certificate_of long_reads bs parts) c.requires.read in
    ap (least (drop (i + 1) zs)) (to_z-of_z {w = w64} (record { sfits = c.min-least.type_inv }) ∙ c.min-least.ensures.value ∙ ap (λ (y : ℤ). int_min y (to_z w64 c.loop-i.least-bits)) z)
    ∙ least-next zs i (omega (arith, potentials-length bs parts c.requires)) (to_z w64 c.loop-i.least-bits)
    ∙ c.loop-i.invariant

pub returns : goal.returns
unfolding allowance
returns c =
    let bs = c.args.s.now in
    let parts = c.args.parts in
    let zs = potentials_in bs parts.count in
    let first = to_z-of_z {w = w64} (record { sfits = c.potential-first.type_inv }) ∙ c.potential-first.ensures (certificate_of long_reads bs parts) c.requires.read in
    let all = sym (ap (λ (ys : List ℤ). least ys (to_z w64 c.loop-i.least-bits)) (drop_of_length-le zs (omega (arith, potentials-length bs parts c.requires)))) ∙ c.loop-i.invariant in
    c.abs_diff.ensures ∙ (λ j. nat_abs (first j -ℤ all j))
