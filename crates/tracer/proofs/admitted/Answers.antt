-- Before each label the plan admits the run exactly when it admits the rest from here.
use Rattle.std.proofs.Common.{◌≡◌, ℕ, suc, ◌<◌, List, ◌∷◌, length, get_or, drop, refl, sym, ap, ◌∙◌, add-one, false, arith, drop-cons}
use mathlib.Core.Option.{Option, none, some}
use lib.ListN.{drop_of_length-le}
use Rattle.model.specs.Plan.{Plan, next_in}
use Rattle.model.specs.Schedule.{admits, admits_from}
use Rattle.plan.specs.View.{arcs_in, StatesFit}
use Rattle.tracer.proofs.admitted.Invariants.{Reached}
use Rattle.tracer.proofs.admitted.Goals as goal

-- a step by the option that the label leads to
admits-by : (P : Plan) (l : ℕ) (ls : List ℕ) (s : ℕ) (o : Option ℕ) → next_in P.arcs s l ≡ o →
    admits_from P (l ∷ ls) s ≡ (elim o [ none ↦ false | some t ↦ admits_from P ls t ])
admits-by P l ls s o e = ap (λ (k : Option ℕ). elim k [ none ↦ false | some t ↦ admits_from P ls t ]) e

module _ (next labels : List ℕ) (state i : ℕ) (h : Reached next labels state i) (more : i < length labels) where
  step : (o : Option ℕ) → o ≡ next_in (arcs_in next) state (get_or labels i 0) → (P : Plan) → P.arcs ≡ arcs_in next →
      admits P labels ≡ (elim o [ none ↦ false | some t ↦ admits_from P (drop (suc i) labels) t ])
  step o found P e =
      h.rest P e
      ∙ ap (λ (ls : List ℕ). admits_from P ls state) (drop-cons labels i 0 more)
      ∙ admits-by P (get_or labels i 0) (drop (suc i) labels) state o (ap (λ as'. next_in as' state (get_or labels i 0)) e ∙ sym found)

  next-state : StatesFit next → (t : ℕ) → some t ≡ next_in (arcs_in next) state (get_or labels i 0) → Reached next labels t (suc i)
  next-state fit t found = record {
    inside = more;
    fits = fit.to state (get_or labels i 0) t (sym found);
    rest = step (some t) found;
  }

pub loop-label-init : goal.loop-label-init
loop-label-init c = record { inside = omega arith; fits = omega arith; rest = λ P e. refl }

pub next_state-requires : goal.next_state-requires
next_state-requires c = c.loop-label.invariant.fits

pub returns-in_default : goal.returns-in_default
returns-in_default c P e = sym (step _ _ _ _ c.loop-label.invariant c.loop-label-test.true none c.in_default.ensures P e)

pub loop-label-preserved : goal.loop-label-preserved
loop-label-preserved c =
    rw (add-one c.loop-label.label-index)
    (next-state _ _ _ _ c.loop-label.invariant c.loop-label-test.true c.requires _ c.in-Some.ensures)

pub returns : goal.returns
returns c P e =
    sym (c.loop-label.invariant.rest P e ∙ ap (λ (ls : List ℕ). admits_from P ls c.loop-label.state) (drop_of_length-le _ c.loop-label-test.false))
