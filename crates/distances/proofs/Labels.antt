-- The labels of a node, tried one after another. Assumes nothing.
use mathlib.Core.Path.{◌≡◌, refl, sym, subst, ◌∙◌}
use mathlib.Core.Bool.{Bool, true, false, ◌||◌}
use mathlib.Core.List.{List}
use Prim.Native.Nat.{ℕ, ◌+◌, ◌^◌, ◌<◌}
use native.Mathlib.Decide.{ℕ_discrete}
use native.Mathlib.Nat.{not-suc-le-zero}
use native.Mathlib.Omega.{arith}
use Rattle.std.specs.Prelude.{Ok}
use Rattle.model.specs.Plan.{Plan}
use Rattle.theory.specs.Lightest.{max_weight}
use Rattle.theory.specs.Search.{Progress}
use Rattle.theory.proofs.Progress.{progress-then, progress-tried, progress_alike, spread_none, spread-then}
use Rattle.theory.proofs.Searched.{told-still}
use Rattle.policy.specs.View.{Ruled}
use Rattle.policy.specs.declared.Rules.{Rules}
use Rattle.potentials.specs.declared.Claim.{Claim}
use Rattle.links.specs.declared.Mark.TheVariants.{Tried}
use Rattle.links.specs.Links.{link_in, state_in, marked, Puts}
use Rattle.words.proofs.Free.{only_trans}
use Rattle.distances.specs.Distances.{LinkOf, SpreadIn, SearchIn, Sought, Advance, DoneBy, RelaxesLabel, RelaxesNode}
use Rattle.distances.proofs.Rows.{only_both}
use Rattle.distances.proofs.Advances.{advance-none, advance-then, done-later, done-links}
use Rattle.distances.proofs.Marks.{mark_tried, mark_alike}
use Rattle.distances.proofs.Taken.{taken-waits}

or-false : (b : Bool) → (b || false) ≡ b
or-false true = refl
or-false false = refl

-- the labels below one are done, and no circuit was found
pub record DoneBelow (P : Plan) (claim : Claim) (u label : ℕ) (before after : List ℕ) (moved : Bool) : Type 0 where
  pub advance : Advance P claim before after (Ok moved)
  pub done : (l : ℕ) → l < label → DoneBy P claim after u l
  pub spread : SpreadIn P claim before after u

module _ {P : Plan} {claim : Claim} {u : ℕ} where
  pub below_none : {m : List ℕ} → SearchIn P claim m → DoneBelow P claim u 0 m m false
  below_none s = record { advance = advance-none s; done = λ l h. absurd (not-suc-le-zero h); spread = spread_none (LinkOf P claim) }

  module _ {label : ℕ} {m m' m'' : List ℕ} {moved : Bool} (b : DoneBelow P claim u label m m' moved) where
    -- one label more
    pub below_more : {moved' : Bool} → RelaxesLabel P claim u label m' m'' (Ok moved') → DoneBelow P claim u (label + 1) m m'' (moved || moved')
    below_more r = record {
      advance = advance-then b.advance r.advance;
      done = λ l h. by l h (ℕ_discrete l label);
      spread = spread-then (LinkOf P claim) b.spread r.spread;
    }
      where
        by : (l : ℕ) → l < label + 1 → Dec (l ≡ label) → DoneBy P claim m'' u l
        by l h (yes p) = subst (DoneBy P claim m'' u) (sym p) r.done
        by l h (no q) = done-later m' m'' u r.advance.progress.later r.spread.source (b.done l (omega arith))

    -- all labels, and then u is marked
    pub below_all : {r : Rules} {next : List ℕ} → Sought P r next m claim → Ruled r → label ≡ 2 ^ r.tasks.count → u < claim.n →
        (state_in m).known u ≡ true → Puts u (marked Tried (link_in m' u)) m' m'' → RelaxesNode P claim u m m'' (Ok moved)
    below_all {r} s ruled all below known puts =
        let few = s.priced.holds.rows.index.few in
        let so_far = b.advance.progress in
        let links = done-links m' u s.priced.planned ruled (λ l h. b.done l (subst (λ (n : ℕ). l < n) (sym all) h)) in
        let mark = progress_alike (LinkOf P claim) (omega arith) (progress-tried (LinkOf P claim) u so_far.search links)
        (mark_alike puts few (so_far.later.known u below known)) in
        record {
          advance = record {
            progress =
                subst (Progress (LinkOf P claim) claim.n max_weight (state_in m) (state_in m'')) (or-false moved)
                (progress-then (LinkOf P claim) so_far mark);
            links = only_trans b.advance.links puts.only;
            circuit = tt;
            only = only_trans b.advance.only (only_both puts.only);
          };
          taken =
              taken-waits s.priced m' below known so_far.later links b.spread ∙ sym (told-still claim.n (state_in m') (state_in m'') (mark.still refl));
          tried = λ f. mark_tried puts (omega arith);
        }
