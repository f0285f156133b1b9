-- The edges of a label, by what is noted of its choices. Assumes nothing.
use mathlib.Core.Path.{◌≡◌, sym, ◌∙◌, ap₂, subst, subst₂}
use mathlib.Core.Bool.{true, false}
use mathlib.Core.List.{List}
use Prim.Native.Nat.{ℕ, ◌*◌}
use native.Mathlib.Omega.{arith}
use lib.IntN.{pos, ◌+ℤ◌, ◌-ℤ◌}
use Rattle.model.specs.Check.{weight}
use Rattle.std.specs.Prelude as rust
use Rattle.std.specs.Prelude.{Ok, Err, None}
use Rattle.model.specs.Options.{option_of}
use Rattle.model.specs.Plan.{Plan, next_in}
use Rattle.theory.specs.Lightest.{Best}
use Rattle.theory.proofs.Circuits.{best-same, lightest_within}
use Rattle.theory.proofs.Gains.{fraction-fits}
use Rattle.theory.proofs.Sound.{sound-plan}
use Rattle.plan.specs.View.{arcs_in}
use Rattle.policy.specs.declared.Rules.{Rules}
use Rattle.node.specs.declared.Node.{Node}
use Rattle.graph.specs.declared.Noted.{Noted}
use Rattle.potentials.specs.declared.Claim.{Claim}
use Rattle.potentials.specs.Potentials.{Numbered, gain_in}
use Rattle.potentials.specs.Best.{Leads, Expanded, NotedBest}
use Rattle.potentials.proofs.Best.{outcome-best, best-outcome, no_outcome}
use Rattle.links.specs.Links.{state_in}
use Rattle.theory.proofs.Progress.{spread_none}
use Rattle.distances.specs.Distances.{LinkOf, Sought, Reached, weight_of, Offers, RelaxesAll, DoneBy, RelaxesLabel, Answer}
use Rattle.distances.specs.declared.Outcomes.{Outcomes}
use Rattle.distances.proofs.Advances.{advance-none}

-- the label leads somewhere, or nowhere
pub leads-of : {P : Plan} {r : Rules} {next m : List ℕ} {claim : Claim} {u : ℕ} {node : Node} {l : ℕ} {to : rust.Option ℕ} → Sought P r next m claim →
    Numbered m claim.n u node → option_of to ≡ next_in (arcs_in next) node.state l → Leads P r next m claim.n u node l to
leads-of s at state = record { planned = s.priced.planned; holds = s.priced.holds; at = at; state = state }

-- a label that is not admitted has no edges
pub label-none : {P : Plan} {r : Rules} {next m : List ℕ} {claim : Claim} {u : ℕ} {node : Node} {l : ℕ} → Sought P r next m claim →
    Leads P r next m claim.n u node l None → RelaxesLabel P claim u l m m (Ok false)
label-none {P} {claim = claim} s leads = record {
  advance = advance-none s.search;
  done = λ v w h k. absurd (no_outcome leads k.best);
  spread = spread_none (LinkOf P claim);
}

module _ {P : Plan} {r : Rules} {next m : List ℕ} {claim : Claim} {u : ℕ} {node : Node} {l state : ℕ} {before notes : List ℕ} {d : Noted}
    (s : Sought P r next m claim) (t : Expanded P r next m claim.n u node l state before notes d) {kept : ℕ} (gained : kept ≡ d.done.gain) where
  abbrev out : Outcomes
  out = record { number = u; label = l; count = d.count; cells = d.done.cells; state = state; kept = kept }

  -- the weight of a noted edge
  noted-weight : {v p : ℕ} (b : NotedBest P u l v t.wanted notes d p) →
      weight claim.fraction.p claim.fraction.q b.edge ≡ pos (claim.fraction.q * kept) -ℤ pos (claim.fraction.p * gain_in notes d.count p)
  noted-weight {p = p} b =
      let gain : b.edge.ideal ≡ gain_in notes d.count p = omega (arith, b.ideal) in
      ap₂ (λ (x y : ℕ). pos (claim.fraction.q * x) -ℤ pos (claim.fraction.p * y)) (b.kept ∙ sym gained) gain

  pub label-offers : (state_in m).known u ≡ true → Offers P claim m notes out
  label-offers known =
      let sound = sound-plan P s.priced.planned.sound in
      let fits = fraction-fits claim.fraction.p claim.fraction.q s.priced.fraction in record {
        few = s.priced.holds.rows.index.few;
        room = s.priced.room;
        within = lightest_within P sound claim.fraction.p claim.fraction.q claim.n s.priced.fraction;
        search = s.search;
        index = s.priced.holds.rows.index;
        distinct = s.priced.holds.rows.distinct;
        from = t.leads.at.below;
        known = known;
        fits_p = fits.0;
        fits_q = fits.1;
        readable = t.reaches.readable;
        noted = λ k h. omega (arith, (outcome-best t k h).1.ideal);
        below = λ k h. (outcome-best t k h).0;
        link = λ k h.
            let b = (outcome-best t k h).1 in
            record { edge = b.edge; best = b.best; weighs = noted-weight b };
      }

  -- every edge of the label is one of them
  pub label-done : {m' : List ℕ} (tried : Answer) → RelaxesAll P claim out notes m m' tried → RelaxesLabel P claim u l m m' tried
  label-done (Err k) a = record { advance = a.advance; done = tt; spread = tt }
  label-done {m'} (Ok moved) a = record { advance = a.advance; done = done; spread = a.spread }
    where
      done : DoneBy P claim m' u l
      done v w h link =
          let k = best-outcome t h link.best in
          let b = (outcome-best t k.0 k.1).1 in
          let same = best-same P (subst (λ (x : ℕ). Best P u l x b.edge) k.2 b.best) link.best in
          let weighs : weight_of claim kept notes d.count k.0 ≡ w =
          sym (noted-weight b) ∙ ap₂ (λ (x y : ℕ). pos (claim.fraction.q * x) -ℤ pos (claim.fraction.p * y)) same.0 same.1 ∙ link.weighs in
          subst₂ (λ (x : ℕ) z. Reached m' x z) k.2 (ap₂ (λ y z. y +ℤ z) (sym a.spread.source) weighs) (a.reached k.0 k.1)
