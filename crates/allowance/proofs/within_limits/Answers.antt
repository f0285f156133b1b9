-- `allowance::within_limits` meets its contract: one potential after another. Assumes nothing.
use Rattle.std.proofs.Common.{arith, sym, ap, ◌∙◌, Bool, ◌+◌, pos, drop, w64}
use mathlib.Core.Bool.{◌&&◌}
use mir.Facts.{to_z-of_z}
use Rattle.model.specs.Edition.{long_reads}
use Rattle.model.specs.Check.{within_limit}
use Rattle.model.specs.Lists.{all}
use Rattle.model.proofs.All.{all_from, all_done}
use Rattle.certificate.specs.View.{potentials_in, certificate_of}
use Rattle.allowance.proofs.Least.{potentials-length, there}
use Rattle.allowance.proofs.within_limits.Goals as goal

pub potential-requires : goal.potential-requires
potential-requires c = there c.args.s.now c.args.parts c.requires c.loop-i.i c.loop-i-test.true

pub returns-then-not-within_limit : goal.returns-then-not-within_limit
returns-then-not-within_limit c =
    let bs = c.args.s.now in
    let parts = c.args.parts in
    let i = c.loop-i.i in
    let zs = potentials_in bs parts.count in
    let z = to_z-of_z {w = w64} (record { sfits = c.potential.type_inv }) ∙ c.potential.ensures (certificate_of long_reads bs parts) c.requires.read in
    let tested = sym (c.within_limit.ensures ∙ ap within_limit z) ∙ c.if-not-within_limit.true in
    let here = all_from within_limit zs (pos 0) i (omega (arith, potentials-length bs parts c.requires)) in
    sym (c.loop-i.invariant ∙ here ∙ ap (λ (b : Bool). b && all within_limit (drop (i + 1) zs)) tested)

pub loop-i-preserved : goal.loop-i-preserved
loop-i-preserved c =
    let bs = c.args.s.now in
    let parts = c.args.parts in
    let i = c.loop-i.i in
    let zs = potentials_in bs parts.count in
    let z = to_z-of_z {w = w64} (record { sfits = c.potential.type_inv }) ∙ c.potential.ensures (certificate_of long_reads bs parts) c.requires.read in
    let tested = sym (c.within_limit.ensures ∙ ap within_limit z) ∙ c.if-not-within_limit.false in
    let here = all_from within_limit zs (pos 0) i (omega (arith, potentials-length bs parts c.requires)) in
    c.loop-i.invariant ∙ here ∙ ap (λ (b : Bool). b && all within_limit (drop (i + 1) zs)) tested

pub returns : goal.returns
returns c =
    let bs = c.args.s.now in
    let parts = c.args.parts in
    sym (c.loop-i.invariant ∙ all_done within_limit (potentials_in bs parts.count) (pos 0) c.loop-i.i (omega (arith, potentials-length bs parts c.requires)))
