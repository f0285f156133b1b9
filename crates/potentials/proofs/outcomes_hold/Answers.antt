-- `potentials::outcomes_hold` meets its contract: the patterns one after another. Assumes nothing.
use mathlib.Core.Path.{◌≡◌, sym, ap, ap₂, ◌∙◌}
use mathlib.Core.Bool.{Bool}
use mathlib.Core.List.{List}
use Prim.Native.Nat.{ℕ, ◌-◌, ◌*◌}
use native.Mathlib.Omega.{arith}
use lib.IntN.{ℤ, pos, ◌-ℤ◌}
use lib.Signed.{le_z}
use mir.Syntax.{w64}
use mir.Val.{to_z, of_z}
use mir.Facts.{to_z-of_z}
use Rattle.model.specs.Lists.{all, up_from}
use Rattle.model.proofs.All.{all_map, all-next, all_stops}
use Rattle.graph.specs.Outcomes.{pattern_in}
use Rattle.potentials.specs.declared.Claim.{Claim}
use Rattle.potentials.specs.Potentials.{potential_of, with_pattern, score_in, pattern_ok}
use Rattle.potentials.proofs.Weights.{bound-is}
use Rattle.potentials.proofs.outcomes_hold.Goals as goal

-- what one turn tests, by what its calls give
turn : (claim : Claim) (zs : List ℤ) (notes : List ℕ) (count : ℕ) (m cells : List ℕ) (state : ℕ) (high : ℤ) (k : ℕ) {taken pattern score : ℕ} {bound : ℤ} {b : Bool} →
    taken ≡ pattern_in notes k → pattern ≡ taken → score ≡ score_in notes count pattern → bound ≡ high -ℤ pos (claim.fraction.p * (score - 1)) →
    b ≡ le_z (potential_of zs m claim.n (with_pattern cells state taken)) bound → b ≡ pattern_ok claim zs notes count m cells state high (pattern_in notes k)
turn claim zs notes count m cells state high k t p s is tested =
    tested
    ∙ ap₂ le_z (ap (λ (q : ℕ). potential_of zs m claim.n (with_pattern cells state q)) t)
    (is ∙ ap (λ (x : ℕ). high -ℤ pos (claim.fraction.p * (x - 1))) (s ∙ ap (score_in notes count) (p ∙ t)))

pub returns-then-not-target_holds : goal.returns-then-not-target_holds
returns-then-not-target_holds c d e =
    let a = c.args in
    let l = c.loop-k in
    let out = a.noted.now in
    let ok = pattern_ok a.claim d.potentials a.notes.now out.count a.m.now out.done.cells a.state a.high in
    let bound = bound-is a.high a.claim.fraction.p (c.best_score-gain.result - 1) c.ranges.high (record { sfits = c.times.type_inv }) c.times.ensures
    (omega (arith, c.requires.fits_p)) (omega (arith, c.best_score-gain.type_inv)) c.requires.fits_high in
    let passed = turn a.claim d.potentials a.notes.now out.count a.m.now out.done.cells a.state a.high l.k c.noted_pattern-taken.ensures.0 c.from.ensures
    (c.best_score-gain.ensures out.count) bound (c.target_holds.ensures d e) in
    sym (all_map ok (pattern_in a.notes.now) (up_from 0 out.count)
    ∙ all_stops (λ j. ok (pattern_in a.notes.now j)) l.k out.count (omega arith) (sym passed ∙ c.if-not-target_holds.true))

pub loop-k-preserved : goal.loop-k-preserved
loop-k-preserved c d e =
    let a = c.args in
    let l = c.loop-k in
    let out = a.noted.now in
    let ok : ℤ → ℕ → Bool = λ z j. pattern_ok a.claim d.potentials a.notes.now out.count a.m.now out.done.cells a.state z (pattern_in a.notes.now j) in
    let bound = bound-is a.high a.claim.fraction.p (c.best_score-gain.result - 1) c.ranges.high (record { sfits = c.times.type_inv }) c.times.ensures
    (omega (arith, c.requires.fits_p)) (omega (arith, c.best_score-gain.type_inv)) c.requires.fits_high in
    let passed = turn a.claim d.potentials a.notes.now out.count a.m.now out.done.cells a.state a.high l.k c.noted_pattern-taken.ensures.0 c.from.ensures
    (c.best_score-gain.ensures out.count) bound (c.target_holds.ensures d e) in
    all-next (ok (to_z w64 (of_z w64 a.high))) l.k (l.invariant d e)
    (ap (λ (z : ℤ). ok z l.k) (to_z-of_z {w = w64} c.ranges.high) ∙ sym passed ∙ c.if-not-target_holds.false)

pub returns : goal.returns
returns c d e =
    let a = c.args in
    let l = c.loop-k in
    let out = a.noted.now in
    let ok : ℤ → ℕ → Bool = λ z p. pattern_ok a.claim d.potentials a.notes.now out.count a.m.now out.done.cells a.state z p in
    let all-passed : l.k ≡ out.count = omega arith in
    sym (all_map (ok a.high) (pattern_in a.notes.now) (up_from 0 out.count)
    ∙ ap₂ (λ z n. all (λ j. ok z (pattern_in a.notes.now j)) (up_from 0 n)) (sym (to_z-of_z {w = w64} c.ranges.high)) (sym all-passed)
    ∙ l.invariant d e)
