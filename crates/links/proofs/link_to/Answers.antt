-- `links::link_to` meets its contract: each field is read from its place.
-- Assumes nothing.
use mathlib.Core.Path.{◌∙◌}
use mir.Syntax.{w64}
use mir.Facts.{to_z-of_z}
use Prim.Native.Nat.{◌+◌}
use lib.ListN.{get_or}
use Rattle.links.specs.Links.{link_place}
use Rattle.links.proofs.link_to.Goals as goal

pub returns : goal.returns
returns c =
    let m = c.args.m.now in
    let v = c.args.v in
    λ i. record {
      distance = (to_z-of_z {w = w64} (record { sfits = c.read_i64-distance.type_inv }) ∙ c.read_i64-distance.ensures) i;
      parent = c.read_u16-parent.ensures i;
      label = get_or m (link_place v + 10) 0;
      mark = c.from.ensures i;
    }
