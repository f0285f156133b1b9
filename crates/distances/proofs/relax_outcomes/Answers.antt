-- `distances::relax_outcomes` meets its contract: the outcomes one after another, until one closes a circuit.
-- Assumes nothing.
use mathlib.Core.Path.{◌≡◌, sym, ◌∙◌, ap, ap₂, subst}
use Prim.Native.Nat.{◌*◌}
use native.Mathlib.Omega.{arith}
use lib.IntN.{pos, ◌+ℤ◌}
use mir.Syntax.{w64}
use mir.Val.{SFits, to_z, of_z}
use mir.Facts.{to_z-of_z}
use borrow.Author.Rules.{rules}
use Rattle.potentials.proofs.Weights.{charge_small, high_fits}
use Rattle.links.specs.Links.{state_in}
use Rattle.distances.specs.Distances.{high_of, RelaxesAll}
use Rattle.distances.proofs.Targets.{distance_small, passed_up}
use Rattle.distances.proofs.Tries.{trying_start, trying_next, trying_stops, trying_all}
use Rattle.distances.proofs.relax_outcomes.Goals as goal
use Rattle.distances.proofs.relax_outcomes.Goals.{After-times}

-- the distance with the policy's weight, before it is stored
sum : (c : After-times) →
    let a = c.args in
    to_z w64 (of_z w64 c.link_to-from.result.distance) +ℤ to_z w64 (of_z w64 c.times.result) ≡ high_of a.claim a.m.now a.out.now
sum c =
    let told : SFits w64 c.link_to-from.result.distance = search rules in
    ap₂ (λ y z. y +ℤ z)
    (to_z-of_z {w = w64} told ∙ ap (λ l. l.distance) c.link_to-from.ensures)
    (to_z-of_z {w = w64} (record { sfits = c.times.type_inv }) ∙ c.times.ensures)

-- which fits
fits : (c : After-times) →
    SFits w64 (to_z w64 (of_z w64 c.link_to-from.result.distance) +ℤ to_z w64 (of_z w64 c.times.result))
fits c =
    let a = c.args in
    let o = c.requires.offers in
    subst (SFits w64) (sym (sum c))
    (high_fits ((state_in a.m.now).dist a.out.now.number) (a.claim.fraction.q * a.out.now.kept) (charge_small a.claim.fraction.q a.out.now.kept o.fits_q (omega (arith, c.fits-out)))
    (distance_small c.requires.plan a.claim a.m.now o.search o.within o.few a.out.now.number o.from o.known))

pub overflow_add-high : goal.overflow_add-high
overflow_add-high c = fits (goal.at.overflow_add-high c).After-times

pub loop-k-init : goal.loop-k-init
loop-k-init c P o = trying_start o

pub relax_outcome-requires : goal.relax_outcome-requires
relax_outcome-requires c =
    let p = (goal.at.relax_outcome-requires c).After-times in
    let t = c.loop-k.invariant c.requires.plan c.requires.offers in (
      record { plan = c.requires.plan; offers = t.offers },
      c.loop-k-test.true,
      to_z-of_z {w = w64} (fits p) ∙ sum p ∙ ap (λ z. z +ℤ pos (c.args.claim.fraction.q * c.args.out.now.kept)) (sym t.spread.source),
    )

pub returns-in_err-moved : goal.returns-in_err-moved
returns-in_err-moved c P o =
    let a = c.args in
    let s = c.loop-k.invariant P o in
    subst (RelaxesAll P a.claim a.out.now a.notes.now a.m.now c.relax_outcome.new.m) (sym (passed_up c.from_residual.result c.from_residual.ensures.1))
    (trying_stops s c.loop-k-test.true (c.in_err-moved.ensures P s.offers))

pub loop-k-preserved : goal.loop-k-preserved
loop-k-preserved c P o = let s = c.loop-k.invariant P o in trying_next s c.loop-k-test.true (c.in_ok-moved.ensures P s.offers)

pub returns : goal.returns
returns c P o = trying_all (c.loop-k.invariant P o) c.loop-k-test.false
