-- The noted outcomes of a label, tried one after another. Assumes nothing.
use mathlib.Core.Path.{◌≡◌, sym, ap, subst}
use mathlib.Core.Bool.{Bool, false, ◌||◌}
use mathlib.Core.List.{List}
use Prim.Native.Nat.{ℕ, ◌+◌, ◌<◌, ◌≤◌}
use native.Mathlib.Decide.{dec_lt}
use native.Mathlib.Omega.{arith}
use lib.IntN.{◌+ℤ◌}
use Rattle.std.specs.Prelude.{Ok, Err}
use Rattle.model.specs.Plan.{Plan}
use Rattle.words.proofs.Signed.{≤ℤ_trans}
use Rattle.graph.specs.Outcomes.{pattern_in}
use Rattle.store.specs.Store.{max_rows, index_in}
use Rattle.discovery.specs.Discovery.{row_of}
use Rattle.potentials.specs.declared.Claim.{Claim}
use Rattle.potentials.specs.Potentials.{with_pattern}
use Rattle.model.specs.Bytes.{Only}
use Rattle.links.specs.Links.{links_at, links_size, steps_size}
use Rattle.theory.proofs.Progress.{spread_none, spread-then}
use Rattle.distances.specs.Distances.{LinkOf, SpreadIn, Advance, Reached, weight_of, target_of, distance_by, Offers, RelaxesOne, RelaxesAll}
use Rattle.distances.specs.declared.Outcomes.{Outcomes}
use Rattle.distances.proofs.Rows.{rows-kept, index_kept, distinct-kept}
use Rattle.distances.proofs.Advances.{advance-none, advance-then, advance-circuit}

-- the first k outcomes are tried, without a circuit
pub record Trying (P : Plan) (claim : Claim) (out : Outcomes) (notes before m : List ℕ) (moved : Bool) (k : ℕ) : Type 0 where
  pub offers : Offers P claim m notes out
  pub advance : Advance P claim before m (Ok moved)
  pub reached : (j : ℕ) → j < k → Reached m (target_of claim before notes out j) (distance_by claim before notes out j)
  pub spread : SpreadIn P claim before m out.number

-- the same node, where the rows are the same
target-kept : (claim : Claim) (out : Outcomes) (notes : List ℕ) {m m' : List ℕ} → claim.n ≤ max_rows → Only links_at (links_size + steps_size) m m' → (j : ℕ) →
    target_of claim m' notes out j ≡ target_of claim m notes out j
target-kept claim out notes few o j =
    ap (λ rows. index_in rows (row_of (with_pattern out.cells out.state (pattern_in notes j)))) (rows-kept o claim.n few)

module _ {P : Plan} {claim : Claim} {out : Outcomes} {notes : List ℕ} where
  -- the outcomes stay offered
  offers-after : {m m' : List ℕ} {moved : Bool} → Offers P claim m notes out → Advance P claim m m' (Ok moved) → Offers P claim m' notes out
  offers-after {m} {m'} o a =
      let few = o.index.few in record {
        few = o.few;
        room = omega (arith, o.room, a.only.long);
        within = o.within;
        search = a.progress.search;
        index = index_kept a.only o.index;
        distinct = distinct-kept a.only few o.distinct;
        from = o.from;
        known = a.progress.later.known out.number o.from o.known;
        fits_p = o.fits_p;
        fits_q = o.fits_q;
        readable = o.readable;
        noted = o.noted;
        below = λ j h. subst (λ (x : ℕ). x < claim.n) (sym (target-kept claim out notes few a.only j)) (o.below j h);
        link = λ j h.
            subst (λ (x : ℕ). LinkOf P claim out.number out.label x (weight_of claim out.kept notes out.count j)) (sym (target-kept claim out notes few a.only j)) (o.link j h);
      }

  pub trying_start : {m : List ℕ} → Offers P claim m notes out → Trying P claim out notes m m false 0
  trying_start o = record {
    offers = o;
    advance = advance-none o.search;
    reached = λ j h. absurd (omega arith);
    spread = spread_none (LinkOf P claim);
  }

  module _ {before m : List ℕ} {moved : Bool} {k : ℕ} (s : Trying P claim out notes before m moved k) (h : k < out.count) where
    -- the k-th as it stood before
    same_target : (j : ℕ) → target_of claim m notes out j ≡ target_of claim before notes out j
    same_target = target-kept claim out notes s.offers.index.few s.advance.only

    -- one more is tried
    pub trying_next : {m' : List ℕ} {moved' : Bool} → RelaxesOne P claim out k notes m m' (Ok moved') → Trying P claim out notes before m' (moved || moved') (k + 1)
    trying_next {m'} r = record {
      offers = offers-after s.offers r.advance;
      advance = advance-then s.advance r.advance;
      reached = λ j below. by j below (dec_lt j k);
      spread = spread-then (LinkOf P claim) s.spread r.spread;
    }
      where
        by : (j : ℕ) → j < k + 1 → Dec (j < k) → Reached m' (target_of claim before notes out j) (distance_by claim before notes out j)
        by j below (yes l) =
            let was = s.reached j l in
            let place = subst (λ (x : ℕ). x < claim.n) (same_target j) (s.offers.below j (omega arith)) in
            let later = r.advance.progress.later in
            (later.known _ place was.0, ≤ℤ_trans (later.dist _ place was.0) was.1)
        by j below (no l) =
            let e : j ≡ k = omega arith in
            subst (λ (i : ℕ). Reached m' (target_of claim before notes out i) (distance_by claim before notes out i)) (sym e)
            (subst (λ (x : ℕ). Reached m' x (distance_by claim before notes out k)) (same_target k)
            (subst (λ z. Reached m' (target_of claim m notes out k) (z +ℤ weight_of claim out.kept notes out.count k)) s.spread.source r.reached))

    -- or it closes a circuit
    pub trying_stops : {m' : List ℕ} {steps : ℕ} → RelaxesOne P claim out k notes m m' (Err steps) → RelaxesAll P claim out notes before m' (Err steps)
    trying_stops r = record { advance = advance-circuit s.advance r.advance; reached = tt; spread = tt }

  -- all are tried
  pub trying_all : {before m : List ℕ} {moved : Bool} {k : ℕ} → Trying P claim out notes before m moved k → out.count ≤ k →
      RelaxesAll P claim out notes before m (Ok moved)
  trying_all s h = record { advance = s.advance; reached = λ j l. s.reached j (omega arith); spread = s.spread }
