-- `links::put_cycle` meets its contract: every node on the way is one of the first, and the links stand as they did.
-- Assumes nothing.
use mathlib.Core.Path.{sym, ◌∙◌, subst}
use Prim.Native.Nat.{◌-◌, ◌<◌}
use native.Mathlib.Omega.{arith}
use Rattle.model.specs.Limits.{max_nodes}
use Rattle.links.specs.Links.{PutsStep}
use Rattle.links.specs.declared.Link.{Link}
use Rattle.links.proofs.Climb.{climbs_short, Trailing, trailing_next, trailing_all, trailing_below, trailing_above, trailing_same}
use Rattle.links.proofs.put_cycle.Goals as goal

pub link_to-link-requires : goal.link_to-link-requires
link_to-link-requires c =
    (trailing_below c.requires.0 c.requires.1 c.loop-left.invariant, omega (arith, c.requires.0.room, c.loop-left.invariant.only.long))

pub put_step-requires : goal.put_step-requires
put_step-requires c =
    let t = c.loop-left.invariant in (
      omega (arith, t.most, c.loop-left-test.true, climbs_short c.requires.0 c.args.j c.requires.1),
      omega (arith, c.requires.0.room, t.only.long),
      subst (λ (r : Link). r.parent < max_nodes) (sym (c.link_to-link.ensures ∙ trailing_same c.requires.0 c.requires.1 t))
          (trailing_above c.requires.0 c.requires.1 t c.loop-left-test.true),
    )

pub loop-left-preserved : goal.loop-left-preserved
loop-left-preserved c =
    let e = c.link_to-link.ensures ∙ trailing_same c.requires.0 c.requires.1 c.loop-left.invariant in
    let m' = c.put_step.new.m in
    subst (λ (r : Link). Trailing c.args.m.now c.args.u c.args.j m' r.parent (c.loop-left.left - 1)) (sym e)
    (trailing_next c.loop-left.invariant (climbs_short c.requires.0 c.args.j c.requires.1) c.loop-left-test.true
    (subst (λ (r : Link). PutsStep (c.loop-left.left - 1) (record { node = r.parent; label = r.label }) c.loop-left.m m') e c.put_step.ensures))

pub put_step-requires-2 : goal.put_step-requires-2
put_step-requires-2 c = (
  climbs_short c.requires.0 c.args.j c.requires.1,
  omega (arith, c.requires.0.room, c.loop-left.invariant.only.long),
  omega (arith, c.requires.0.below, c.requires.0.few),
)

pub returns : goal.returns
returns c = trailing_all c.loop-left.invariant (climbs_short c.requires.0 c.args.j c.requires.1) c.loop-left-test.false c.put_step-2.ensures
