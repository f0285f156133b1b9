-- Pairs and their numbers: the table of numbers tells which pairs are known.
-- Assumes nothing.
use mathlib.Core.Path.{◌≡◌, refl, sym, ap, subst, ◌∙◌}
use Rattle.std.specs.Prelude as rust
use Rattle.std.specs.Prelude.{None, Some}
use mathlib.Core.Bool.{Bool, true, false, cond}
use mathlib.Core.List.Memᴰ
use mathlib.Core.List.{List, [], ◌∷◌, ◌++◌, map, map-append, Memᴰ}
use Prim.Native.Nat.{ℕ, zero, suc, ◌+◌, ◌/◌, ◌%◌, ◌<◌}
use native.Mathlib.Decide.{ℕ_discrete}
use native.Mathlib.Numerals.{add-one}
use native.Mathlib.Omega.{arith}
use lib.ListN.{length, get_or, set, take, length-set, length-map, length-append, get_or-map}
use lib.Seq.{length-take-le, get_or-take, get_or-set_same, get_or-set_other, take-suc-set}
use Rattle.model.specs.Limits.{max_states}
use Rattle.model.specs.Discovery.{among, add, number_in}
use Rattle.model.specs.Combine.{Pair, starts, same_pair}
use Rattle.model.proofs.Lists.{mem-get_or}
use Rattle.model.proofs.Discovery.{among-mem, number_at}
use Rattle.theory.proofs.Pairs.{same_pair_lem}
use Rattle.combine.specs.Pairs.{state_pairs, pair_at, pairs_in, Numbering, PairsKnown}

-- one pair has one number
pair_number : (c d : ℕ) → pair_at c ≡ pair_at d → c ≡ d
pair_number c d e =
    let left : c / max_states ≡ d / max_states = ap (λ (u : Pair). u.left) e in
    let right : c % max_states ≡ d % max_states = ap (λ (u : Pair). u.right) e in
    omega (arith, left, right)

-- ---- what is given, if it is

abbrev or_this : {A : Type 0} → A → rust.Option A → A
or_this d None = d
or_this d (Some a) = a

pub some_is : {A : Type 0} (a b : A) → ◌≡◌ {A = rust.Option A} (Some a) (Some b) → a ≡ b
some_is a b e = ap (or_this a) e

pub some-none : {A : Type 0} (a : A) → ◌≡◌ {A = rust.Option A} (Some a) None → ⊥
some-none a e = let z : ◌≡◌ {A = ℕ} 0 1 = cc in omega arith

pub known_some : (us : List Pair) (order numbers : List ℕ) (n : ℕ) → Numbering order numbers n → pairs_in order n ≡ us → PairsKnown us order numbers (Some n)
known_some us order numbers n known same = record {
  held = λ m e. subst (λ (k : ℕ). Numbering order numbers k × (pairs_in order k ≡ us)) (some_is n m e) (known, same);
  many = λ e. absurd (some-none n e);
}

pub known_none : (us : List Pair) (order numbers : List ℕ) → max_states < length us → PairsKnown us order numbers None
known_none us order numbers more = record { held = λ m e. absurd (some-none m (sym e)); many = λ e. more }

-- ---- n pairs known

module _ (order numbers : List ℕ) (n : ℕ) (known : Numbering order numbers n) where
  abbrev us : List Pair
  us = pairs_in order n

  pub pairs-length : length us ≡ n
  pairs-length = length-map (take n order) pair_at ∙ length-take-le n order (omega (arith, known.few, known.room))

  pub pair_get_or : (i : ℕ) → i < n → get_or us i starts ≡ pair_at (get_or order i 0)
  pair_get_or i h = get_or-map pair_at (take n order) i 0 ∙ ap pair_at (get_or-take n order i 0 h)

  -- one of them is read from the table by its number
  pub number_read : (c : ℕ) → Memᴰ (pair_at c) us → get_or numbers c 0 ≡ suc (number_in same_pair us (pair_at c))
  number_read c m =
      let r = number_at same_pair same_pair_lem us (pair_at c) starts m in
      let below : number_in same_pair us (pair_at c) < n = omega (arith, r.0, pairs-length) in
      ap (λ (d : ℕ). get_or numbers d 0) (pair_number c (get_or order (number_in same_pair us (pair_at c)) 0) (sym r.1 ∙ pair_get_or (number_in same_pair us (pair_at c)) below))
      ∙ known.back (number_in same_pair us (pair_at c)) below

  -- and what has a number is one of them
  number_there : (c i : ℕ) → get_or numbers c 0 ≡ suc i → Memᴰ (pair_at c) us
  number_there c i e =
      let r = known.only c i e in
      Memᴰ.cast (sym (pair_get_or i r.0 ∙ ap pair_at r.1)) (mem-get_or us i starts (omega (arith, r.0, pairs-length)))

  module _ (c : ℕ) where
    -- a pair that has a number is among them
    pub join_there : (0 < get_or numbers c 0) → PairsKnown (add same_pair us (pair_at c)) order numbers (Some n)
    join_there h =
        let there : among same_pair (pair_at c) us ≡ true = (among-mem same_pair same_pair_lem (pair_at c) us).1 (by (get_or numbers c 0) refl h) in
        known_some _ order numbers n known (sym (ap (λ (b : Bool). cond b us (us ++ (pair_at c ∷ []))) there))
      where
        by : (x : ℕ) → get_or numbers c 0 ≡ x → 0 < x → Memᴰ (pair_at c) us
        by zero e h = absurd (omega (arith, h))
        by (suc i) e h = number_there c i e

    module _ (new : get_or numbers c 0 ≡ 0) where
      absent : among same_pair (pair_at c) us ≡ false
      absent = by (among same_pair (pair_at c) us) refl
        where
          by : (b : Bool) → among same_pair (pair_at c) us ≡ b → b ≡ false
          by false e = refl
          by true e = absurd (omega (arith, new, number_read c ((among-mem same_pair same_pair_lem (pair_at c) us).0 e)))

      joined : add same_pair us (pair_at c) ≡ us ++ (pair_at c ∷ [])
      joined = ap (λ (b : Bool). cond b us (us ++ (pair_at c ∷ []))) absent

      -- one more than there may be
      pub join_full : n ≡ max_states → PairsKnown (add same_pair us (pair_at c)) order numbers None
      join_full full = known_none _ order numbers (omega (arith, full, pairs-length, ap length joined, length-append us (pair_at c ∷ [])))

      -- the next one
      module _ (room : n < max_states) (fits : c < state_pairs) where
        abbrev order' : List ℕ
        order' = set order n c

        abbrev numbers' : List ℕ
        numbers' = set numbers c (n + 1)

        place_kept : (i : ℕ) → i < n → get_or order' i 0 ≡ get_or order i 0
        place_kept i h = get_or-set_other order n i c 0 (λ e. absurd (omega (arith, h, e)))

        place_new : get_or order' n 0 ≡ c
        place_new = get_or-set_same order n c 0 (omega (arith, room, known.room))

        number-kept : (d : ℕ) → (d ≡ c → ⊥) → get_or numbers' d 0 ≡ get_or numbers d 0
        number-kept d h = get_or-set_other numbers c d (n + 1) 0 h

        number_new : get_or numbers' c 0 ≡ suc n
        number_new = get_or-set_same numbers c (n + 1) 0 (omega (arith, fits, known.size)) ∙ add-one n

        back : (i : ℕ) → Dec (i ≡ n) → i < n + 1 → get_or numbers' (get_or order' i 0) 0 ≡ suc i
        back i (yes e) h =
            ap (λ (j : ℕ). get_or numbers' (get_or order' j 0) 0) e ∙ ap (λ (d : ℕ). get_or numbers' d 0) place_new ∙ number_new ∙ ap suc (sym e)
        back i (no e) h =
            let below : i < n = omega arith in
            ap (λ (d : ℕ). get_or numbers' d 0) (place_kept i below)
            ∙ number-kept (get_or order i 0) (λ f. absurd (omega (arith, new, known.back i below, ap (λ (d : ℕ). get_or numbers d 0) f)))
            ∙ known.back i below

        only : (d i : ℕ) → Dec (d ≡ c) → get_or numbers' d 0 ≡ suc i → (i < n + 1) × (get_or order' i 0 ≡ d)
        only d i (yes e) f =
            let at : i ≡ n = omega (arith, f, number_new, ap (λ (x : ℕ). get_or numbers' x 0) e) in
            (omega arith, ap (λ (j : ℕ). get_or order' j 0) at ∙ place_new ∙ sym e)
        only d i (no e) f =
            let r = known.only d i (sym (number-kept d e) ∙ f) in
            (omega (arith, r.0), place_kept i r.0 ∙ r.1)

        numbering : Numbering order' numbers' (n + 1)
        numbering = record {
          few = omega arith;
          room = length-set order n c ∙ known.room;
          size = length-set numbers c (n + 1) ∙ known.size;
          back = λ i. back i (ℕ_discrete i n);
          only = λ d i. only d i (ℕ_discrete d c);
        }

        in_order : pairs_in order' (n + 1) ≡ us ++ (pair_at c ∷ [])
        in_order =
            ap (λ (k : ℕ). map pair_at (take k order')) (add-one n)
            ∙ ap (map pair_at) (take-suc-set order n c (omega (arith, room, known.room)))
            ∙ map-append pair_at (take n order) (c ∷ [])

        pub join_new : PairsKnown (add same_pair us (pair_at c)) order' numbers' (Some (n + 1))
        join_new = known_some _ order' numbers' (n + 1) numbering (in_order ∙ sym joined)

-- ---- none are known at first

pub no_pairs : (order numbers : List ℕ) → length order ≡ max_states → length numbers ≡ state_pairs → ((c : ℕ) → get_or numbers c 0 ≡ 0) → Numbering order numbers 0
no_pairs order numbers room size none = record {
  few = omega arith;
  room = room;
  size = size;
  back = λ i h. absurd (omega (arith, h));
  only = λ c i e. absurd (omega (arith, e, none c));
}
