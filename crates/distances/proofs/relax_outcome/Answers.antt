-- `distances::relax_outcome` meets its contract: the noted outcome is an edge to the node that is found, at the distance that is computed.
-- Assumes nothing.
use mathlib.Core.Path.{◌≡◌, sym, ◌∙◌, ap, ap₂, subst, subst₂}
use Prim.Native.Nat.{ℕ, ◌-◌, ◌*◌, ◌≤◌}
use native.Mathlib.Omega.{arith}
use lib.IntN.{pos, nat_abs, ◌-ℤ◌}
use mir.Syntax.{w64}
use mir.Val.{SFits, to_z, of_z}
use mir.Facts.{to_z-of_z}
use Rattle.graph.specs.Outcomes.{pattern_in}
use Rattle.store.specs.Store.{rows_in, index_in, index_or}
use Rattle.discovery.specs.Discovery.{row_of}
use Rattle.potentials.specs.Potentials.{with_pattern, score_in, gain_in, max_high}
use Rattle.potentials.proofs.Weights.{charge_small, high_small, bound_fits, weight-order}
use Rattle.links.specs.Links.{state_in}
use Rattle.distances.specs.Distances.{target_of, distance_by, Relaxes}
use Rattle.distances.proofs.Targets.{distance_small, offer-of, found-some}
use Rattle.distances.proofs.relax_outcome.Goals as goal
use Rattle.distances.proofs.relax_outcome.Goals.{After-times, After-find}

-- the score that is read
score : (c : After-times) →
    let a = c.args in
    c.best_score-gain.result ≡ score_in a.notes.now a.out.count (pattern_in a.notes.now a.k)
score c =
    let a = c.args in
    c.best_score-gain.ensures a.out.count ∙ ap (score_in a.notes.now a.out.count) c.noted_pattern-taken.ensures.0

-- the distance, before it is stored
distance : (c : After-times) →
    let a = c.args in
    to_z w64 (of_z w64 a.high) -ℤ to_z w64 (of_z w64 c.times.result)
    ≡ a.high -ℤ pos (a.claim.fraction.p * gain_in a.notes.now a.out.count (pattern_in a.notes.now a.k))
distance c =
    let a = c.args in
    ap₂ (λ y z. y -ℤ z) (to_z-of_z {w = w64} c.ranges.high)
    (to_z-of_z {w = w64} (record { sfits = c.times.type_inv }) ∙ c.times.ensures ∙ ap (λ (x : ℕ). pos (a.claim.fraction.p * (x - 1))) (score c))

-- which fits
fits : (c : After-times) →
    let a = c.args in
    SFits w64 (to_z w64 (of_z w64 a.high) -ℤ to_z w64 (of_z w64 c.times.result))
fits c =
    let a = c.args in
    let o = c.requires.0.offers in
    let g = gain_in a.notes.now a.out.count (pattern_in a.notes.now a.k) in
    subst (SFits w64) (sym (distance c))
    (bound_fits a.high (a.claim.fraction.p * g)
    (charge_small a.claim.fraction.p g (omega (arith, o.fits_p)) (omega (arith, score c, c.best_score-gain.type_inv)))
    (subst (λ z. nat_abs z ≤ max_high) (sym c.requires.2)
    (high_small ((state_in a.m.now).dist a.out.number) (a.claim.fraction.q * a.out.kept) (charge_small a.claim.fraction.q a.out.kept o.fits_q (omega (arith, c.well_formed)))
    (distance_small c.requires.0.plan a.claim a.m.now o.search o.within o.few a.out.number o.from o.known))))

-- and is the pattern's
at : (c : After-times) →
    let a = c.args in
    to_z w64 (of_z w64 (to_z w64 (of_z w64 a.high) -ℤ to_z w64 (of_z w64 c.times.result))) ≡ distance_by a.claim a.m.now a.notes.now a.out a.k
at c =
    let a = c.args in
    let charge = a.claim.fraction.p * gain_in a.notes.now a.out.count (pattern_in a.notes.now a.k) in
    to_z-of_z {w = w64} (fits c) ∙ distance c ∙ ap (λ z. z -ℤ pos charge) c.requires.2 ∙ weight-order ((state_in a.m.now).dist a.out.number) (a.claim.fraction.q * a.out.kept) charge

-- what is found is the number of the pattern's node
row : (c : After-find) →
    let a = c.args in
    index_or a.claim.n c.find.result ≡ target_of a.claim a.m.now a.notes.now a.out a.k
row c =
    let a = c.args in
    c.find.ensures.index ∙ ap (index_in (rows_in a.m.now a.claim.n))
    (c.row_of.ensures ∙ ap (λ (p : ℕ). row_of (with_pattern a.out.cells a.out.state p)) c.noted_pattern-taken.ensures.0)

pub overflow_sub-gain : goal.overflow_sub-gain
overflow_sub-gain c =
    let a = c.args in
    let read = c.best_score-gain.ensures a.out.count ∙ ap (score_in a.notes.now a.out.count) c.noted_pattern-taken.ensures.0 in
    omega (arith, read, c.requires.0.offers.noted a.k c.requires.1)

pub overflow_sub-z : goal.overflow_sub-z
overflow_sub-z c = fits c

pub unwrap-v-requires : goal.unwrap-v-requires
unwrap-v-requires c =
    found-some c.find.result (row (goal.at.unwrap-v-requires c).After-find) (c.requires.0.offers.below c.args.k c.requires.1)

pub relax-requires : goal.relax-requires
relax-requires c =
    let p = goal.at.relax-requires c in
    let v = sym (ap (index_or c.args.claim.n) c.unwrap-v.ensures) ∙ row p.After-find in
    record { plan = c.requires.0.plan; claim = c.args.claim; offer = offer-of c.requires.0.offers c.args.k c.requires.1 v (at p.After-times) }

pub returns : goal.returns
returns c P o =
    let p = goal.at.returns c in
    let a = c.args in
    let v = sym (ap (index_or a.claim.n) c.unwrap-v.ensures) ∙ row p.After-find in
    let z = at p.After-times in
    subst₂ (λ (x : ℕ) y. Relaxes P a.claim a.out.number x y a.m.now c.relax.new.m c.relax.result) v z
    (c.relax.ensures P a.claim (offer-of o a.k c.requires.1 v z))
