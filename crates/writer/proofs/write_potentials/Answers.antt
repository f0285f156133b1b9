-- `writer::write_potentials` meets its contract: one potential after another. Assumes nothing.
use mathlib.Core.Path.{◌≡◌, sym, ap, ◌∙◌}
use Prim.Native.Nat.{ℕ, ◌+◌, ◌*◌}
use native.Mathlib.Omega.{arith}
use mir.Syntax.{w64}
use mir.Val.{SFits}
use mir.Facts.{to_z-of_z}
use borrow.Author.Rules.{rules}
use Rattle.model.specs.Bytes.{overwrite}
use Rattle.words.proofs.Memory.{overwrite-none}
use Rattle.theory.proofs.Form.{potential_bytes}
use Rattle.certificate.specs.View.{head_size, potential_size}
use Rattle.links.specs.Links.{link_in}
use Rattle.links.specs.declared.Link.{Link}
use Rattle.writer.specs.Writer.{distances_in, potentials_bytes}
use Rattle.writer.proofs.Bytes.{potentials-more}
use Rattle.writer.proofs.write_potentials.Goals as goal

pub loop-i-init : goal.loop-i-init
loop-i-init c = sym (overwrite-none _ head_size)

pub link_to-link-requires : goal.link_to-link-requires
link_to-link-requires c = (omega (arith, c.loop-i-test.true, c.requires.0), c.requires.1)

pub loop-i-preserved : goal.loop-i-preserved
loop-i-preserved c =
    let l = c.loop-i in
    let a = c.args in
    let told : SFits w64 c.link_to-link.result.distance = search rules in
    let distance : _ ≡ (link_in a.m.now l.i).distance = to_z-of_z {w = w64} told ∙ ap (λ (x : Link). x.distance) c.link_to-link.ensures in
    c.write_potential.ensures
    ∙ (λ j. overwrite (l.invariant j) (head_size + potential_size * l.i) (potential_bytes (distance j)))
    ∙ potentials-more a.m.now a.out.now l.i (omega (arith, c.loop-i-test.true, c.requires.2))

pub returns : goal.returns
returns c =
    let l = c.loop-i in
    let a = c.args in
    let all : l.i ≡ a.n = omega (arith, l.auto.i-end, c.loop-i-test.false) in
    l.invariant ∙ ap (λ (k : ℕ). overwrite a.out.now head_size (potentials_bytes (distances_in a.m.now k))) all
