-- `links::way_up` meets its contract.
-- Assumes nothing.
use mathlib.Core.Path.{sym, ap, subst}
use Prim.Native.Nat.{ℕ, ◌+◌, ◌<◌}
use native.Mathlib.Omega.{arith}
use Rattle.model.specs.Limits.{max_nodes}
use Rattle.links.proofs.Climb.{Climbed, climbed_next, climbs_below, climbs_short}
use Rattle.links.proofs.way_up.Goals as goal

-- the node there is one of the first, after fewer steps than these
pub link_to-at-requires : goal.link_to-at-requires
link_to-at-requires c =
    let i = c.loop-at.invariant in
    (subst (λ (x : ℕ). x < max_nodes) (sym i.place) (climbs_below c.requires c.loop-at.j i.start), c.requires.room)

pub overflow_add-j : goal.overflow_add-j
overflow_add-j c = omega (arith, climbs_short c.requires c.loop-at.j c.loop-at.invariant.start)

pub loop-at-smaller : goal.loop-at-smaller
loop-at-smaller c = omega (arith, climbs_short c.requires c.loop-at.j c.loop-at.invariant.start)

pub loop-at-preserved : goal.loop-at-preserved
loop-at-preserved c =
    subst (λ (x : ℕ). Climbed c.args.m.now c.args.u c.args.v x (c.loop-at.j + 1))
    (sym (ap (λ r. r.parent) c.link_to-at.ensures)) (climbed_next c.loop-at.invariant c.loop-at-test.true c.if-at-eq0.false)
