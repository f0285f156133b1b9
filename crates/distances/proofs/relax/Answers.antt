-- `distances::relax` meets its contract: a distance is kept, or a smaller one stored, or a circuit closed.
-- Assumes nothing.
use mathlib.Core.Path.{sym, ◌∙◌, ap₂, subst}
use mir.Syntax.{w64}
use mir.Facts.{to_z-of_z}
use native.Mathlib.Omega.{arith}
use Rattle.links.specs.declared.Mark.TheVariants.{Waiting}
use Rattle.links.specs.Links.{Puts}
use Rattle.links.proofs.Climb.{climbs_short}
use Rattle.distances.proofs.Relaxed.{shorter, offer_climbs, relax_keeps, relax_moves, relax_closes}
use Rattle.distances.proofs.relax.Goals as goal

pub link_to-requires : goal.link_to-requires
link_to-requires c = let o = c.requires.offer in (omega (arith, o.to, o.few), o.room)

pub returns-then-not-is_shorter : goal.returns-then-not-is_shorter
returns-then-not-is_shorter c P claim o =
    relax_keeps o (sym (c.is_shorter.ensures ∙ ap₂ shorter c.link_to.ensures (to_z-of_z {w = w64} c.ranges.z)) ∙ c.if-not-is_shorter.true)

pub put_link-requires : goal.put_link-requires
put_link-requires c = let o = c.requires.offer in (omega (arith, o.to, o.few), o.room, omega (arith, o.from, o.few))

pub put_cycle-requires : goal.put_cycle-requires
put_cycle-requires c = (offer_climbs c.requires.offer, c.in-Some.ensures.1)

pub overflow_add-result : goal.overflow_add-result
overflow_add-result c = omega (arith, climbs_short (offer_climbs c.requires.offer) c.in-Some.j c.in-Some.ensures.1)

pub returns-in-Some : goal.returns-in-Some
returns-in-Some c P claim o =
    relax_closes o (sym (c.is_shorter.ensures ∙ ap₂ shorter c.link_to.ensures (to_z-of_z {w = w64} c.ranges.z)) ∙ c.if-not-is_shorter.false) c.in-Some.j c.in-Some.ensures _ c.put_cycle.ensures

pub returns : goal.returns
returns c P claim o =
    let a = c.args in
    let m = a.m.now in
    let m' = c.put_link.new.m in
    relax_moves o (sym (c.is_shorter.ensures ∙ ap₂ shorter c.link_to.ensures (to_z-of_z {w = w64} c.ranges.z)) ∙ c.if-not-is_shorter.false)
    c.in_default.ensures m'
    (subst (λ z. Puts a.v (record { distance = z; parent = a.u; label = a.label; mark = Waiting }) m m') (to_z-of_z {w = w64} c.ranges.z)
    c.put_link.ensures.puts)
