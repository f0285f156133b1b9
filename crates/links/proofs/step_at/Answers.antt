-- `links::step_at` meets its contract: each field is read from its place.
-- Assumes nothing.
use Prim.Native.Nat.{◌+◌}
use lib.ListN.{get_or}
use Rattle.links.specs.Links.{step_place}
use Rattle.links.proofs.step_at.Goals as goal

pub returns : goal.returns
returns c =
    let m = c.args.m.now in
    let i = c.args.i in
    λ j. record { node = c.read_u16-node.ensures j; label = get_or m (step_place i + 2) 0 }
