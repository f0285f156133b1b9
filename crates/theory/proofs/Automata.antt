-- The arcs of an automaton that is given by its next states: what they lead to, that they rise, and that they are in range.
-- Assumes nothing.
use mathlib.Core.Path.{◌≡◌, refl, sym, ap, ap₂, subst, ◌∙◌}
use mathlib.Core.Logic.{inl, inr}
use Prim.Native.Nat.{ℕ, zero, suc, ◌+◌, ◌^◌, ◌≤◌, ◌<◌}
use native.Mathlib.Omega.{arith}
use mathlib.Core.Bool.{Bool, true, false, cond, ◌&&◌}
use mathlib.Core.List.Memᴰ
use mathlib.Core.List.{List, [], ◌∷◌, ◌++◌, Memᴰ}
use mathlib.Core.Option.{Option, none, some}
use borrow.Author.Tests.{eqb-true, eqb-false, eq-eqb}
use lib.Dec.{eqb}
use Rattle.model.specs.Lists.{flat_map, up_from}
use Rattle.model.specs.Plan.{Arc, next_in}
use Rattle.model.specs.PlanBytes.{given_arc, arcs_of}
use Rattle.model.proofs.Lists.{mem-of-flat_map, mem-of-up_from}
use Rattle.model.proofs.Plan.{or_else, or_else-none, next-append}
use Rattle.theory.proofs.Sound.{ArcSound, Before, ArcsRise}

-- one of several groups of arcs has the pair
module _ (f : ℕ → List Arc) (s l x : ℕ) (others : (a : ℕ) → (a ≡ x → ⊥) → next_in (f a) s l ≡ none) where
  group-out : (k n : ℕ) → ((k ≤ x) → x < k + n → ⊥) → next_in (flat_map f (up_from k n)) s l ≡ none
  group-out k zero h = refl
  group-out k (suc n) h =
      next-append (f k) (flat_map f (up_from (suc k) n)) s l
      ∙ ap₂ or_else (others k (λ e. h (omega arith) (omega arith))) (group-out (suc k) n (λ p q. h (omega arith) (omega arith)))

  group_in : (k n : ℕ) → k ≤ x → x < k + n → next_in (flat_map f (up_from k n)) s l ≡ next_in (f x) s l
  group_in k zero h i = absurd (omega arith)
  group_in k (suc n) h i =
      next-append (f k) (flat_map f (up_from (suc k) n)) s l ∙ go (eqb k x) refl (λ p. group_in (suc k) n p (omega arith))
    where
      go : (b : Bool) → eqb k x ≡ b → (suc k ≤ x → next_in (flat_map f (up_from (suc k) n)) s l ≡ next_in (f x) s l) →
          or_else (next_in (f k) s l) (next_in (flat_map f (up_from (suc k) n)) s l) ≡ next_in (f x) s l
      go true e later =
          ap₂ or_else (ap (λ a. next_in (f a) s l) (eqb-true k x e)) (group-out (suc k) n (λ p q. omega (arith, eqb-true k x e)))
          ∙ or_else-none (next_in (f x) s l)
      go false e later = ap₂ or_else (others k (eqb-false k x e)) (later (omega (arith, eqb-false k x e)))

-- the arc of another pair
given-other : (a b : ℕ) (o : Option ℕ) (s l : ℕ) → (a ≡ s → b ≡ l → ⊥) → next_in (given_arc a b o) s l ≡ none
given-other a b none s l h = refl
given-other a b (some t) s l h = go (eqb a s) (eqb b l) refl refl
  where
    go : (p q : Bool) → eqb a s ≡ p → eqb b l ≡ q → cond (p && q) (some t) none ≡ none
    go true true e f = absurd (h (eqb-true a s e) (eqb-true b l f))
    go true false e f = refl
    go false q e f = refl

-- and of the pair itself
given-same : (s l : ℕ) (o : Option ℕ) → next_in (given_arc s l o) s l ≡ o
given-same s l none = refl
given-same s l (some t) = ap₂ (λ (p q : Bool). cond (p && q) (some t) none) (eq-eqb s s refl) (eq-eqb l l refl)

module _ (states count : ℕ) (next : ℕ → ℕ → Option ℕ) where
  -- the arcs of one state
  row : ℕ → List Arc
  row s = flat_map (λ l. given_arc s l (next s l)) (up_from 0 (2 ^ count))

  row_other : (a s l : ℕ) → (a ≡ s → ⊥) → next_in (row a) s l ≡ none
  unfolding row
  row_other a s l h = none_in (2 ^ count) 0
    where
      none_in : (n k : ℕ) → next_in (flat_map (λ l'. given_arc a l' (next a l')) (up_from k n)) s l ≡ none
      none_in zero k = refl
      none_in (suc n) k =
          next-append (given_arc a k (next a k)) (flat_map (λ l'. given_arc a l' (next a l')) (up_from (suc k) n)) s l
          ∙ ap₂ or_else (given-other a k (next a k) s l (λ e f. h e)) (none_in n (suc k))

  -- a pair in range leads where it is given to lead
  pub arcs-next : (s l : ℕ) → s < states → l < 2 ^ count → next_in (arcs_of states count next) s l ≡ next s l
  unfolding arcs_of row
  arcs-next s l h i =
      group_in row s l s (λ a e. row_other a s l e) 0 states (omega arith) (omega arith)
      ∙ group_in (λ l'. given_arc s l' (next s l')) s l l (λ a e. given-other s a (next s a) s l (λ p q. e q)) 0 (2 ^ count) (omega arith) (omega arith)
      ∙ given-same s l (next s l)

  -- no other label is admitted
  pub arcs-none : (s l : ℕ) → 2 ^ count ≤ l → next_in (arcs_of states count next) s l ≡ none
  unfolding arcs_of row
  arcs-none s l h = each states 0
    where
      each : (n k : ℕ) → next_in (flat_map row (up_from k n)) s l ≡ none
      each zero k = refl
      each (suc n) k =
          next-append (row k) (flat_map row (up_from (suc k) n)) s l
          ∙ ap₂ or_else (group-out (λ l'. given_arc k l' (next k l')) s l l (λ a e. given-other k a (next k a) s l (λ p q. e q)) 0 (2 ^ count) (λ p q. omega arith)) (each n (suc k))

-- ---- they rise, and are in range

-- two rising lists, the one below the other
rise_append : (as' bs : List Arc) → ArcsRise as' → ArcsRise bs → ((a b : Arc) → Memᴰ a as' → Memᴰ b bs → Before a b) → ArcsRise (as' ++ bs)
rise_append [] bs p q h = q
rise_append (a ∷ []) [] p q h = tt
rise_append (a ∷ []) (b ∷ bs) p q h = (h a b (Memᴰ.head refl) (Memᴰ.head refl), q)
rise_append (a ∷ c ∷ as') bs p q h = (p.0, rise_append (c ∷ as') bs p.1 q (λ x y m. h x y (Memᴰ.tail m)))

-- groups that rise, each below the next ones
rise_groups : (f : ℕ → List Arc) → ((k : ℕ) → ArcsRise (f k)) → ((k j : ℕ) (a b : Arc) → k < j → Memᴰ a (f k) → Memᴰ b (f j) → Before a b) →
    (k n : ℕ) → ArcsRise (flat_map f (up_from k n))
rise_groups f r h k zero = tt
rise_groups f r h k (suc n) =
    rise_append (f k) (flat_map f (up_from (suc k) n)) (r k) (rise_groups f r h (suc k) n)
    (λ a b m m'. let w = mem-of-flat_map f (up_from (suc k) n) m' in h k w.0 a b (omega (arith, mem-of-up_from (suc k) n w.1)) m w.2)

given-mem : (s l : ℕ) (o : Option ℕ) {a : Arc} → Memᴰ a (given_arc s l o) → (a.from ≡ s) × (a.label ≡ l) × (o ≡ some a.to)
given-mem s l none m = absurd (Memᴰ.not-nil m)
given-mem s l (some t) m =
    let e = Memᴰ.eq_of_singleton m in
    (ap (λ b. b.from) e, ap (λ b. b.label) e, ap (λ b. some b.to) (sym e))

given_rise : (s l : ℕ) (o : Option ℕ) → ArcsRise (given_arc s l o)
given_rise s l none = tt
given_rise s l (some t) = tt

module _ (states count : ℕ) (next : ℕ → ℕ → Option ℕ) where
  pub arcs_rise : ArcsRise (arcs_of states count next)
  unfolding arcs_of
  arcs_rise =
      rise_groups (λ s. flat_map (λ l. given_arc s l (next s l)) (up_from 0 (2 ^ count)))
      (λ s. rise_groups (λ l. given_arc s l (next s l)) (λ l. given_rise s l (next s l))
      (λ k j a b h m m'. inr ((given-mem s k (next s k) m).0 ∙ sym (given-mem s j (next s j) m').0, omega (arith, (given-mem s k (next s k) m).1, (given-mem s j (next s j) m').1)))
      0 (2 ^ count))
      (λ s s' a b h m m'.
      let w = mem-of-flat_map (λ l. given_arc s l (next s l)) (up_from 0 (2 ^ count)) m in
      let w' = mem-of-flat_map (λ l. given_arc s' l (next s' l)) (up_from 0 (2 ^ count)) m' in
      inl (omega (arith, (given-mem s w.0 (next s w.0) w.2).0, (given-mem s' w'.0 (next s' w'.0) w'.2).0)))
      0 states

  -- where every next state is one of the states
  pub arcs-sound : ((s l t : ℕ) → s < states → l < 2 ^ count → next s l ≡ some t → t < states) →
      (a : Arc) → Memᴰ a (arcs_of states count next) → ArcSound count states a
  unfolding arcs_of
  arcs-sound h a m =
      let w = mem-of-flat_map (λ s. flat_map (λ l. given_arc s l (next s l)) (up_from 0 (2 ^ count))) (up_from 0 states) m in
      let w' = mem-of-flat_map (λ l. given_arc w.0 l (next w.0 l)) (up_from 0 (2 ^ count)) w.2 in
      let g = given-mem w.0 w'.0 (next w.0 w'.0) w'.2 in
      let ps = mem-of-up_from 0 states w.1 in
      let pl = mem-of-up_from 0 (2 ^ count) w'.1 in
      record {
        from_below = omega (arith, g.0, ps.1);
        label_below = subst (λ (x : ℕ). x < 2 ^ count) (sym g.1) (omega (arith, pl.1));
        to_below = h w.0 w'.0 a.to (omega (arith, ps.1)) (omega (arith, pl.1)) g.2;
      }
