-- The pairs by number, from the pair of starts on: each is explored, and its row of the table written.
-- Assumes nothing.
use mathlib.Core.Path.{◌≡◌, refl, sym, ap, subst, ◌∙◌}
use mathlib.Core.Bool.{Bool, true, false, cond, ◌&&◌}
use mathlib.Core.Logic.{inl, inr}
use mathlib.Core.List.{List, [], ◌∷◌, foldl}
use mathlib.Core.Option.{Option, none}
use Prim.Native.Nat.{ℕ, suc, ◌+◌, ◌*◌, ◌^◌, ◌≤◌, ◌<◌}
use native.Mathlib.Decide.{ℕ_discrete}
use native.Mathlib.Numerals.{add-one}
use native.Mathlib.Omega.{arith}
use borrow.Author.Tests.{ltb-true, ltb-false}
use lib.Dec.{ltb}
use lib.ListN.{length, get_or}
use lib.Seq.{take_all}
use Rattle.words.proofs.Memory.{overwrite-length, overwrite-inside, overwrite_outside}
use Rattle.model.specs.Bytes.{part, overwrite}
use Rattle.model.specs.Limits.{max_states, max_tasks}
use Rattle.model.specs.Discovery.{add, found}
use Rattle.model.specs.Combine.{Pair, starts, same_pair, numbered, numbered_next}
use Rattle.model.proofs.Lists.{mem-given}
use Rattle.model.proofs.Discovery.{known-found, found-step, found_all, found-many, fold_longer, fold-get_or}
use Rattle.theory.proofs.Pairs.{same_pair_lem}
use Rattle.plan.specs.View.{label_count, pair_count, arcs_in, next_of}
use Rattle.plan.proofs.Arcs.{table-arcs}
use Rattle.std.specs.Prelude as rust
use Rattle.std.specs.Prelude.{None, Some}
use Rattle.model.specs.PlanBytes.{arcs_of}
use Rattle.combine.specs.declared.Automaton.{Automaton}
use Rattle.combine.specs.declared.Row.{Row}
use Rattle.combine.specs.Pairs.{optional, pair_at, pairs_in, pair_leads, pairs_after, reached_pairs, Numbering, PairsKnown, PairExplored, IsProduct}
use Rattle.combine.proofs.Numbers.{pairs-length, pair_get_or, some_is, some-none}
use Rattle.combine.proofs.Growing.{numbered-kept}

module _ (first second : List ℕ) (count : ℕ) where
  abbrev after : Pair → List Pair
  after = pairs_after first second count

  -- the pairs known once the first k have been explored
  abbrev known : ℕ → List Pair
  known k = found same_pair after starts k

  abbrev entry_at : List ℕ → ℕ → ℕ → Option ℕ
  entry_at next s l = next_of (get_or next (s * label_count + l) 0)

  -- where a label leads the pair s of these, by number
  abbrev leads_to : List Pair → ℕ → ℕ → Option ℕ
  leads_to = numbered_next (arcs_in first) (arcs_in second)

  -- the first k pairs have been explored, and their rows are written
  pub record Reached (order numbers next : List ℕ) (n k : ℕ) : Type 0 where
    pub numbering : Numbering order numbers n
    pub pairs : pairs_in order n ≡ known k
    pub within : k ≤ n
    pub size : length next ≡ pair_count
    pub rows : (s l : ℕ) → s < k → l < label_count → entry_at next s l ≡ cond (ltb l (2 ^ count)) (leads_to (known k) s l) none
    pub free : (c : ℕ) → k * label_count ≤ c → get_or next c 0 ≡ 0

  -- the pair of starts is known
  module _ (order numbers : List ℕ) (o : rust.Option ℕ) (start : PairsKnown (starts ∷ []) order numbers o) where
    pub start_known : o ≡ None → ⊥
    start_known e = omega (arith, start.many e)

    pub reached-start : (r : ℕ) → o ≡ Some r → (next : List ℕ) → length next ≡ pair_count → ((c : ℕ) → get_or next c 0 ≡ 0) → Reached order numbers next r 0
    unfolding found
    reached-start r is next size none_yet = record {
      numbering = (start.held r is).0;
      pairs = (start.held r is).1;
      within = omega arith;
      size = size;
      rows = λ s l h. absurd (omega (arith, h));
      free = λ c h. none_yet c;
    }

  module _ (order numbers next : List ℕ) (n k : ℕ) (now : Reached order numbers next n k) where
    size-known : length (known k) ≡ n
    size-known = ap length (sym now.pairs) ∙ pairs-length order numbers n now.numbering

    -- ---- the next pair

    module _ (more : k < n) (order' numbers' : List ℕ) (out : rust.Option Row) (explored : PairExplored first second count (pair_at (get_or order k 0)) (pairs_in order n) order' numbers' out) where
      this : pair_at (get_or order k 0) ≡ get_or (known k) k starts
      this = sym (pair_get_or order numbers n now.numbering k more) ∙ ap (λ (us : List Pair). get_or us k starts) now.pairs

      grown : known (suc k) ≡ foldl (add same_pair) (known k) (after (get_or (known k) k starts))
      grown = found-step same_pair same_pair_lem after starts k (omega (arith, more, size-known))

      step : foldl (add same_pair) (pairs_in order n) (after (pair_at (get_or order k 0))) ≡ known (suc k)
      step = (λ i. foldl (add same_pair) (now.pairs i) (after (this i))) ∙ sym grown

      -- too many
      pub reached-many : out ≡ None → IsProduct first second count None
      reached-many is = record {
        states = λ a q. absurd (some-none a (sym q));
        many = λ h.
            found-many same_pair same_pair_lem after starts max_states (suc k) (omega (arith, more, now.numbering.few))
            (omega (arith, explored.known.many (ap (optional (λ (w : Row). w.known)) is), ap length step));
        arcs = λ a q. absurd (some-none a (sym q));
      }

      -- the row is written
      module _ (row : Row) (is : out ≡ Some row) where
        held : Numbering order' numbers' row.known × (pairs_in order' row.known ≡ foldl (add same_pair) (pairs_in order n) (after (pair_at (get_or order k 0))))
        held = explored.known.held row.known (ap (optional (λ (w : Row). w.known)) is)

        row-size : length row.entries ≡ label_count
        row-size = explored.size row is

        abbrev next' : List ℕ
        next' = overwrite next (label_count * k) row.entries

        pairs' : pairs_in order' row.known ≡ known (suc k)
        pairs' = held.1 ∙ step

        same_place : (s : ℕ) → s ≤ k → get_or (known (suc k)) s starts ≡ get_or (known k) s starts
        same_place s h =
            ap (λ (us : List Pair). get_or us s starts) grown
            ∙ fold-get_or same_pair same_pair_lem (after (get_or (known k) k starts)) (known k) starts s (omega (arith, h, more, size-known))

        -- where the earlier pairs lead stays known
        stays : (s l : ℕ) → s < k → l < 2 ^ count → leads_to (known (suc k)) s l ≡ leads_to (known k) s l
        stays s l h b =
            ap (λ (u : Pair). numbered (known (suc k)) (pair_leads first second u l)) (same_place s (omega arith))
            ∙ ap (λ (us : List Pair). numbered us (pair_leads first second (get_or (known k) s starts) l)) grown
            ∙ numbered-kept (known k) (after (get_or (known k) k starts)) (pair_leads first second (get_or (known k) s starts) l)
            (λ v e.
            (known-found same_pair same_pair_lem after starts k).closed s h (omega (arith, h, more, size-known)) v
            (mem-given (pair_leads first second (get_or (known k) s starts)) (2 ^ count) l b e))

        room : label_count * k + length row.entries ≤ length next
        room = omega (arith, row-size, now.size, more, now.numbering.few)

        earlier : (s l : ℕ) → s < k → l < label_count → (b : Bool) → ltb l (2 ^ count) ≡ b →
            cond b (leads_to (known k) s l) none ≡ cond b (leads_to (known (suc k)) s l) none
        earlier s l h j true e = sym (stays s l h (ltb-true l (2 ^ count) e))
        earlier s l h j false e = refl

        rows : (s l : ℕ) → Dec (s ≡ k) → s < suc k → l < label_count → entry_at next' s l ≡ cond (ltb l (2 ^ count)) (leads_to (known (suc k)) s l) none
        rows s l (yes e) h j =
            let at : s * label_count + l ≡ label_count * k + l = omega (arith, e) in
            ap (λ (c : ℕ). next_of (get_or next' c 0)) at
            ∙ ap next_of (overwrite-inside next (label_count * k) row.entries room l (omega (arith, j, row-size)))
            ∙ explored.entry row is l
            ∙ (λ i. cond (ltb l (2 ^ count)) (numbered (pairs' i) (pair_leads first second ((this ∙ sym (same_place k (omega arith)) ∙ ap (λ (x : ℕ). get_or (known (suc k)) x starts) (sym e)) i) l)) none)
        rows s l (no e) h j =
            ap next_of (overwrite_outside next (label_count * k) row.entries room (s * label_count + l) (inl (omega (arith, e, h, j))))
            ∙ now.rows s l (omega (arith, e, h)) j ∙ earlier s l (omega (arith, e, h)) j (ltb l (2 ^ count)) refl

        -- none is lost
        longer : n ≤ row.known
        longer =
            omega (
              arith,
              size-known,
              ap length pairs',
              pairs-length order' numbers' row.known held.0,
              ap length grown,
              fold_longer same_pair same_pair_lem (after (get_or (known k) k starts)) (known k),
            )

        written : Reached order' numbers' next' row.known (k + 1)
        written =
            subst (λ (j : ℕ). Reached order' numbers' next' row.known j) (sym (add-one k)) record {
              numbering = held.0;
              pairs = pairs';
              within = omega (arith, more, longer);
              size = overwrite-length next (label_count * k) row.entries room ∙ now.size;
              rows = λ s l. rows s l (ℕ_discrete s k);
              free = λ c h.
                  overwrite_outside next (label_count * k) row.entries room c (inr (omega (arith, h, row-size)))
                  ∙ now.free c (omega (arith, h));
            }

        -- as it is copied
        pub reached-next : (copied : List ℕ) → copied ≡ overwrite next (label_count * k) (part row.entries 0 label_count) →
            Reached order' numbers' copied row.known (k + 1)
        reached-next copied e =
            subst (λ (t : List ℕ). Reached order' numbers' t row.known (k + 1))
            (sym (e ∙ ap (overwrite next (label_count * k)) (take_all label_count row.entries (omega (arith, row-size))))) written

    -- ---- all pairs

    pub reached-all : count ≤ max_tasks → n ≤ k → IsProduct first second count (Some (record { states = n; next = next }))
    reached-all tasks done = record {
      states = λ a q. subst (λ (b : Automaton). (b.states ≡ length (reached_pairs first second count)) × (b.states ≤ max_states)) (some_is (record { states = n; next = next }) a q)
          (sym (ap length (sym whole) ∙ size-known), now.numbering.few);
      many = λ e. absurd (some-none _ e);
      arcs = λ a q. subst (λ (b : Automaton). arcs_in b.next ≡ arcs_of (length (reached_pairs first second count)) count (leads_to (reached_pairs first second count))) (some_is (record { states = n; next = next }) a q)
          (table-arcs next (length (reached_pairs first second count)) count (leads_to (reached_pairs first second count))
          (omega (arith, ap length (sym whole), size-known, now.numbering.few)) tasks
          (λ s l h j. at s l j (ltb s (length (reached_pairs first second count))) refl));
    }
      where
        whole : known k ≡ reached_pairs first second count
        whole =
            found_all same_pair same_pair_lem after starts max_states k (omega (arith, now.within, now.numbering.few))
            (omega (arith, size-known, done))

        at : (s l : ℕ) → l < label_count → (b : Bool) → ltb s (length (reached_pairs first second count)) ≡ b →
            entry_at next s l ≡ cond (b && ltb l (2 ^ count)) (leads_to (reached_pairs first second count) s l) none
        at s l j true e =
            now.rows s l (omega (arith, ltb-true s (length (reached_pairs first second count)) e, ap length (sym whole), size-known, done)) j
            ∙ ap (λ (us : List Pair). cond (ltb l (2 ^ count)) (leads_to us s l) none) whole
        at s l j false e =
            ap next_of (now.free (s * label_count + l)
            (omega (arith, ltb-false s (length (reached_pairs first second count)) e, ap length (sym whole), size-known, now.within)))
