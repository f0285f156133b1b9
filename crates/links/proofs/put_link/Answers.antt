-- `links::put_link` meets its contract: its four writes are one.
-- Assumes nothing.
use mathlib.Core.Path.{◌≡◌, ◌∙◌, ap}
use mir.Syntax.{w64}
use mir.Val.{SFits}
use mir.Facts.{to_z-of_z}
use Prim.Native.Nat.{◌+◌}
use native.Mathlib.Omega.{arith}
use borrow.Author.Rules.{rules}
use Rattle.model.specs.Bytes.{bytes, complement, overwrite}
use Rattle.links.specs.Links.{link_place}
use Rattle.links.proofs.Written.{byte_low, link_put}
use Rattle.links.proofs.put_link.Goals as goal

pub returns : goal.returns
returns c =
    let told : SFits w64 c.args.link.distance = search rules in
    let first : c.write_i64.new.s ≡ overwrite c.args.m.now (link_place c.args.v) (bytes 8 (complement c.args.link.distance))
    = c.write_i64.ensures
    ∙ ap (λ z. overwrite c.args.m.now (link_place c.args.v) (bytes 8 (complement z))) (to_z-of_z {w = w64} told) in
    link_put c.args.m.now c.args.v c.args.link told.sfits (omega (arith, c.requires)) c.requires.1 c.requires.0 _
    (c.write_u16.ensures ∙ ap (λ x. overwrite x (link_place c.args.v + 8) (bytes 2 c.args.link.parent)) first) _
    (omega (arith, c.byte.ensures, byte_low c.args.link.mark))
