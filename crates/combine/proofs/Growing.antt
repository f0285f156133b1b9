-- Pairs join those known, label by label.
-- Assumes nothing.
use mathlib.Core.Path.{◌≡◌, refl, sym, ap, subst, ◌∙◌}
use mathlib.Core.Bool.{Bool, cond}
use mathlib.Core.List.{List, foldl, foldl-append, Memᴰ}
use mathlib.Core.Option.{Option, none, some}
use Prim.Native.Nat.{ℕ, suc, ◌+◌, ◌-◌, ◌^◌, ◌≤◌, ◌<◌}
use native.Mathlib.Decide.{ℕ_discrete, dec_lt}
use native.Mathlib.Numerals.{add-one}
use native.Mathlib.Omega.{arith}
use borrow.Author.Tests.{lt-ltb, le-ltb}
use lib.Dec.{ltb}
use lib.ListN.{length, get_or, set, length-set}
use lib.Seq.{get_or-set_same, get_or-set_other}
use Rattle.model.specs.Lists.{flat_map, up_from, list_of}
use Rattle.model.specs.Discovery.{add, number_in}
use Rattle.model.specs.Combine.{Pair, same_pair, numbered}
use Rattle.model.proofs.Lists.{flat_map-append, flat_map_snoc, up_from-append, mem-given}
use Rattle.model.proofs.Discovery.{among-mem, add_own, fold-holds, fold_longer, fold-number}
use Rattle.theory.proofs.Pairs.{same_pair_lem}
use Rattle.plan.specs.View.{label_count, next_of}
use Rattle.std.specs.Prelude as rust
use Rattle.std.specs.Prelude.{None, Some}
use Rattle.combine.specs.declared.Row.{Row}
use Rattle.combine.specs.declared.Step.{Step}
use Rattle.combine.specs.Pairs.{optional, pair_at, pair_in, pairs_in, pair_leads, pairs_after, Numbering, PairsKnown, LabelFollowed, PairExplored}
use Rattle.combine.proofs.Numbers.{number_read, some_is, some-none, known_some, known_none}

-- a pair that is known keeps its number when others join
pub numbered-kept : (us ts : List Pair) (o : Option Pair) → ((v : Pair) → o ≡ some v → Memᴰ v us) →
    numbered (foldl (add same_pair) us ts) o ≡ numbered us o
numbered-kept us ts none h = refl
numbered-kept us ts (some v) h = ap some (fold-number same_pair same_pair_lem ts us v (h v refl))

-- ---- one label

module _ (first second : List ℕ) (u : Pair) (l : ℕ) (us : List Pair) (order numbers : List ℕ) where
  -- what a step says, by where the label leads
  abbrev FollowedTo : Option Pair → rust.Option Step → Type 0
  FollowedTo o r =
      PairsKnown (foldl (add same_pair) us (list_of o)) order numbers (optional (λ (s : Step). s.known) r)
      × ((s : Step) → r ≡ Some s → next_of s.entry ≡ numbered (pairs_in order s.known) o)

  followed : (o : Option Pair) → o ≡ pair_leads first second u l → (r : rust.Option Step) → FollowedTo o r → LabelFollowed first second u l us order numbers r
  followed o e r f =
      let g = subst (λ (p : Option Pair). FollowedTo p r) e f in
      record { known = g.0; entry = g.1 }

  -- nowhere
  pub followed_none : (n : ℕ) → Numbering order numbers n → us ≡ pairs_in order n → (to : rust.Option ℕ) → pair_in to ≡ pair_leads first second u l → to ≡ None →
      LabelFollowed first second u l us order numbers (Some (record { known = n; entry = 0 }))
  followed_none n known same to e z =
      followed none (ap pair_in (sym z) ∙ e) (Some (record { known = n; entry = 0 }))
      (known_some us order numbers n known (sym same), λ s q. ap (λ (t : Step). next_of t.entry) (sym (some_is (record { known = n; entry = 0 }) s q)))

  -- to a pair
  module _ (to : rust.Option ℕ) (c : ℕ) (r : rust.Option ℕ) (e : pair_in to ≡ pair_leads first second u l) (z : to ≡ Some c) (known : PairsKnown (add same_pair us (pair_at c)) order numbers r) where
    pub followed_many : r ≡ None → LabelFollowed first second u l us order numbers None
    followed_many n =
        followed (some (pair_at c)) (ap pair_in (sym z) ∙ e) None
        (known_none _ order numbers (known.many n), λ s q. absurd (some-none s (sym q)))

    pub followed_some : (n : ℕ) → r ≡ Some n → LabelFollowed first second u l us order numbers (Some (record { known = n; entry = get_or numbers c 0 }))
    followed_some n is =
        followed (some (pair_at c)) (ap pair_in (sym z) ∙ e) (Some (record { known = n; entry = get_or numbers c 0 }))
        (known_some _ order numbers n h.0 h.1, λ s q. subst (λ (t : Step). next_of t.entry ≡ numbered (pairs_in order t.known) (some (pair_at c))) (some_is (record { known = n; entry = get_or numbers c 0 }) s q) entry)
      where
        h : Numbering order numbers n × (pairs_in order n ≡ add same_pair us (pair_at c))
        h = known.held n is

        entry : next_of (get_or numbers c 0) ≡ some (number_in same_pair (pairs_in order n) (pair_at c))
        entry =
            let there : Memᴰ (pair_at c) (pairs_in order n) =
            subst (λ (vs : List Pair). Memᴰ (pair_at c) vs) (sym h.1) ((among-mem same_pair same_pair_lem (pair_at c) (add same_pair us (pair_at c))).0 (add_own same_pair same_pair_lem us (pair_at c))) in
            ap next_of (number_read order numbers n h.0 c there)

-- ---- the labels from 0 up

module _ (first second : List ℕ) (u : Pair) (us : List Pair) where
  abbrev to : ℕ → List Pair
  to l = list_of (pair_leads first second u l)

  -- where the first k labels lead
  abbrev below : ℕ → List Pair
  below k = flat_map to (up_from 0 k)

  -- they have joined, and their entries say their numbers
  pub record Part (order numbers entries : List ℕ) (n k : ℕ) : Type 0 where
    pub numbering : Numbering order numbers n
    pub pairs : pairs_in order n ≡ foldl (add same_pair) us (below k)
    pub size : length entries ≡ label_count
    pub entry : (l : ℕ) → next_of (get_or entries l 0) ≡ cond (ltb l k) (numbered (pairs_in order n) (pair_leads first second u l)) none

  pub part_none : (order numbers entries : List ℕ) (n : ℕ) → Numbering order numbers n → us ≡ pairs_in order n → length entries ≡ label_count →
      ((l : ℕ) → get_or entries l 0 ≡ 0) → Part order numbers entries n 0
  part_none order numbers entries n known same size none_yet = record {
    numbering = known;
    pairs = sym same;
    size = size;
    entry = λ l. ap next_of (none_yet l) ∙ sym (ap (λ (b : Bool). cond b (numbered (pairs_in order n) (pair_leads first second u l)) none) (le-ltb l 0 (omega arith)));
  }

  module _ (order numbers entries : List ℕ) (n k : ℕ) (part : Part order numbers entries n k) where
    one_more : foldl (add same_pair) (pairs_in order n) (to k) ≡ foldl (add same_pair) us (below (suc k))
    one_more =
        ap (λ (vs : List Pair). foldl (add same_pair) vs (to k)) part.pairs
        ∙ sym (foldl-append (add same_pair) us (below k) (to k)) ∙ ap (foldl (add same_pair) us) (sym (flat_map_snoc to k))

    module _ (order' numbers' : List ℕ) (r : Step) (step : LabelFollowed first second u k (pairs_in order n) order' numbers' (Some r)) where
      held : Numbering order' numbers' r.known × (pairs_in order' r.known ≡ foldl (add same_pair) (pairs_in order n) (to k))
      held = step.known.held r.known refl

      -- the entries so far, once the label's pair has joined
      kept : (l : ℕ) → l < k →
          numbered (pairs_in order' r.known) (pair_leads first second u l) ≡ numbered (pairs_in order n) (pair_leads first second u l)
      kept l h =
          ap (λ (vs : List Pair). numbered vs (pair_leads first second u l)) held.1
          ∙ numbered-kept (pairs_in order n) (to k) (pair_leads first second u l) there
        where
          there : (v : Pair) → pair_leads first second u l ≡ some v → Memᴰ v (pairs_in order n)
          there v e =
              subst (λ (vs : List Pair). Memᴰ v vs) (sym part.pairs)
              (fold-holds same_pair same_pair_lem (below k) us v (mem-given (pair_leads first second u) k l h e))

      -- one label more
      pub part-more : k < label_count → Part order' numbers' (set entries k r.entry) r.known (k + 1)
      part-more room = record {
        numbering = held.0;
        pairs = held.1 ∙ one_more ∙ ap (λ (j : ℕ). foldl (add same_pair) us (below j)) (sym (add-one k));
        size = length-set entries k r.entry ∙ part.size;
        entry = λ l. at l (ℕ_discrete l k) (dec_lt l k);
      }
        where
          now : ℕ → Option ℕ
          now l = numbered (pairs_in order' r.known) (pair_leads first second u l)

          at : (l : ℕ) → Dec (l ≡ k) → Dec (l < k) → next_of (get_or (set entries k r.entry) l 0) ≡ cond (ltb l (k + 1)) (now l) none
          at l (yes e) d =
              ap (λ (j : ℕ). next_of (get_or (set entries k r.entry) j 0)) e
              ∙ ap next_of (get_or-set_same entries k r.entry 0 (omega (arith, room, part.size))) ∙ step.entry r refl
              ∙ sym (ap (λ (b : Bool). cond b (now l) none) (lt-ltb l (k + 1) (omega arith)) ∙ ap now e)
          at l (no e) (yes h) =
              ap next_of (get_or-set_other entries k l r.entry 0 e) ∙ part.entry l
              ∙ ap (λ (b : Bool). cond b (numbered (pairs_in order n) (pair_leads first second u l)) none) (lt-ltb l k h)
              ∙ sym (kept l h) ∙ sym (ap (λ (b : Bool). cond b (now l) none) (lt-ltb l (k + 1) (omega arith)))
          at l (no e) (no h) =
              ap next_of (get_or-set_other entries k l r.entry 0 e) ∙ part.entry l
              ∙ ap (λ (b : Bool). cond b (numbered (pairs_in order n) (pair_leads first second u l)) none) (le-ltb l k (omega arith))
              ∙ sym (ap (λ (b : Bool). cond b (now l) none) (le-ltb l (k + 1) (omega arith)))

    -- too many already: too many with the other labels
    pub part-many : (order' numbers' : List ℕ) → LabelFollowed first second u k (pairs_in order n) order' numbers' None → (count : ℕ) → k < 2 ^ count →
        PairExplored first second count u us order' numbers' None
    part-many order' numbers' step count h = record {
      known = known_none _ order' numbers' (omega (arith, step.known.many refl, ap length one_more, longer));
      size = λ w q. absurd (some-none w (sym q));
      entry = λ w q. absurd (some-none w (sym q));
    }
      where
        longer : length (foldl (add same_pair) us (below (suc k))) ≤ length (foldl (add same_pair) us (pairs_after first second count u))
        longer =
            let left = 2 ^ count - suc k in
            let rest = flat_map to (up_from (0 + suc k) left) in
            let all : 2 ^ count ≡ suc k + left = omega arith in
            let split : foldl (add same_pair) us (pairs_after first second count u) ≡ foldl (add same_pair) (foldl (add same_pair) us (below (suc k))) rest =
            ap (λ (j : ℕ). foldl (add same_pair) us (below j)) all
            ∙ ap (λ (ls : List ℕ). foldl (add same_pair) us (flat_map to ls)) (up_from-append 0 (suc k) left)
            ∙ ap (foldl (add same_pair) us) (flat_map-append to (up_from 0 (suc k)) (up_from (0 + suc k) left))
            ∙ foldl-append (add same_pair) us (below (suc k)) rest in
            omega (arith, ap length split, fold_longer same_pair same_pair_lem rest (foldl (add same_pair) us (below (suc k))))

  -- all labels
  pub part-all : (order numbers entries : List ℕ) (n k count : ℕ) → Part order numbers entries n k → k ≡ 2 ^ count →
      PairExplored first second count u us order numbers (Some (record { known = n; entries = entries }))
  part-all order numbers entries n k count part e = record {
    known = known_some _ order numbers n part.numbering (part.pairs ∙ ap (λ (j : ℕ). foldl (add same_pair) us (below j)) e);
    size = λ w q. ap (λ (v : Row). length v.entries) (sym (some_is row w q)) ∙ part.size;
    entry = λ w q. subst (λ (v : Row). (l : ℕ) → next_of (get_or v.entries l 0) ≡ cond (ltb l (2 ^ count)) (numbered (pairs_in order v.known) (pair_leads first second u l)) none) (some_is row w q)
        (λ l. part.entry l ∙ ap (λ (j : ℕ). cond (ltb l j) (numbered (pairs_in order n) (pair_leads first second u l)) none) e);
  }
    where
      row : Row
      row = record { known = n; entries = entries }
