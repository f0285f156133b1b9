-- The way up by the parents, and the steps of the cycle that it closes. Assumes nothing.
use mathlib.Core.Path.{◌≡◌, refl, sym, ◌∙◌, ap, ap₂, subst}
use mathlib.Core.Bool.{cond}
use mathlib.Core.List.{List, [], ◌∷◌, ◌++◌, map, map-append}
use Prim.Native.Nat.{ℕ, zero, suc, ◌+◌, ◌-◌, ◌≤◌, ◌<◌}
use native.Mathlib.Nat.{zero-add}
use native.Mathlib.Numerals.{add-one}
use native.Mathlib.Omega.{arith}
use Rattle.model.specs.Limits.{max_nodes, max_steps}
use Rattle.model.specs.Lists.{up_from}
use Rattle.model.proofs.Lists.{map_same, up_from-append, mem-of-up_from}
use Rattle.theory.specs.Search as search
use Rattle.theory.specs.Search.{above, Before, trail}
use Rattle.theory.proofs.Upward.{above-next, before-none, before_more, upward-way, upward-short}
use borrow.Author.Tests.{eq-eqb, ne_eqb}
use Rattle.links.specs.declared.Taken.{Taken}
use Rattle.words.proofs.Free.{only_refl, only_trans}
use Rattle.model.specs.Bytes.{Only}
use Rattle.links.proofs.Written.{only-links}
use Rattle.links.specs.Links.{steps_at, link_in, taken_in, state_in, taken_of, PutsStep, Climbs, Closes, steps_size}

-- ---- the way up

-- j steps above u, with neither the start node nor v before
pub record Climbed (m : List ℕ) (u v at j : ℕ) : Type 0 where
  pub place : at ≡ above (state_in m).parent j u
  pub other : Before (state_in m).parent v j u
  pub start : Before (state_in m).parent 0 j u

pub climbed_start : (m : List ℕ) (u v : ℕ) → Climbed m u v u 0
climbed_start m u v = record { place = refl; other = before-none (state_in m).parent v u; start = before-none (state_in m).parent 0 u }

-- one step more
pub climbed_next : {m : List ℕ} {u v at j : ℕ} → Climbed m u v at j → (at ≡ v → ⊥) → (at ≡ 0 → ⊥) → Climbed m u v (link_in m at).parent (j + 1)
climbed_next {m} {u} {v} {at} {j} c q z =
    let up = (state_in m).parent in record {
      place = ap up c.place ∙ sym (above-next up j u) ∙ ap (λ (k : ℕ). above up k u) (sym (add-one j));
      other = subst (λ (k : ℕ). Before up v k u) (sym (add-one j)) (before_more up v j u c.other (λ e. q (c.place ∙ e)));
      start = subst (λ (k : ℕ). Before up 0 k u) (sym (add-one j)) (before_more up 0 j u c.start (λ e. z (c.place ∙ e)));
    }

-- the node there is one of the first, and so are fewer steps
module _ {m : List ℕ} {u : ℕ} (k : Climbs m u) (j : ℕ) (before : Before (state_in m).parent 0 j u) where
  pub climbs_below : above (state_in m).parent j u < max_nodes
  climbs_below = omega (arith, (upward-way k.upward j u k.below k.known before).0, k.few)

  pub climbs_short : j < max_nodes
  climbs_short = omega (arith, upward-short k.upward j u k.below k.known before, k.few)

-- ---- the steps of a cycle

-- one more step on the way down stands first
trail-first : (parent label : ℕ → ℕ) (k u : ℕ) →
    trail parent label (suc k) u ≡ record { node = above parent (suc k) u; label = label (above parent k u) } ∷ trail parent label k u
trail-first parent label zero u = refl
trail-first parent label (suc k) u = ap (λ ss. ss ++ (record { node = parent u; label = label u } ∷ [])) (trail-first parent label k (parent u))

-- k steps from the place i on
abbrev steps_from : List ℕ → ℕ → ℕ → List search.Taken
steps_from m i k = map (λ x. taken_of (taken_in m x)) (up_from i k)

-- a step that is written, and those after it
steps-put : {i : ℕ} {s : Taken} {m m' : List ℕ} → PutsStep i s m m' → (k : ℕ) → i + k < max_steps → steps_from m' i (suc k) ≡ taken_of s ∷ steps_from m (suc i) k
steps-put {i} {s} {m} {m'} p k h =
    ap₂ (λ x xs. taken_of x ∷ xs) (p.steps i (omega arith) ∙ ap (λ b. cond b s (taken_in m i)) (eq-eqb i i refl))
    (map_same (λ x. taken_of (taken_in m' x)) (λ x. taken_of (taken_in m x)) (up_from (suc i) k)
    (λ x e. let r = mem-of-up_from (suc i) k e in
    ap taken_of (p.steps x (omega (arith, r)) ∙ ap (λ b. cond b s (taken_in m x)) (ne_eqb x i (λ q. omega (arith, r, q))))))

-- the steps from `left` up to j are those down to u from the node `at`
pub record Trailing (before : List ℕ) (u j : ℕ) (m : List ℕ) (at left : ℕ) : Type 0 where
  pub most : left ≤ j
  pub place : at ≡ above (state_in before).parent (j - left) u
  pub steps : steps_from m left (j - left) ≡ trail (state_in before).parent (state_in before).label (j - left) u
  pub only : Only steps_at steps_size before m

module _ {before : List ℕ} {u j : ℕ} where
  pub trailing_start : Trailing before u j before u j
  trailing_start =
      let none : j - j ≡ 0 = omega arith in
      let up = (state_in before).parent in record {
        most = omega arith;
        place = ap (λ (k : ℕ). above up k u) (sym none);
        steps = ap (steps_from before j) none ∙ ap (λ (k : ℕ). trail up (state_in before).label k u) (sym none);
        only = only_refl;
      }

  pub trailing_next : {m m' : List ℕ} {at left : ℕ} → Trailing before u j m at left → j < max_steps → 0 < left →
      PutsStep (left - 1) (record { node = (link_in before at).parent; label = (link_in before at).label }) m m' →
      Trailing before u j m' (link_in before at).parent (left - 1)
  trailing_next {m} {m'} {at} {left} t h some p =
      let k = j - left in
      let more : j - (left - 1) ≡ suc k = omega (arith, t.most) in
      let back : suc (left - 1) ≡ left = omega arith in
      let up = (state_in before).parent in
      let lab = (state_in before).label in
      let here : (link_in before at).parent ≡ above up (suc k) u = ap up t.place ∙ sym (above-next up k u) in record {
        most = omega (arith, t.most);
        place = here ∙ ap (λ (i : ℕ). above up i u) (sym more);
        steps =
            ap (steps_from m' (left - 1)) more ∙ steps-put p k (omega (arith, t.most))
            ∙ ap₂ (λ (x : search.Taken) xs. x ∷ xs) (λ i. record { node = here i; label = lab (t.place i) })
            (ap (λ (i : ℕ). steps_from m i k) back ∙ t.steps)
            ∙ sym (trail-first up lab k u) ∙ ap (λ (i : ℕ). trail up lab i u) (sym more);
        only = only_trans t.only p.only;
      }

  -- and the last step
  pub trailing_all : {m m' : List ℕ} {at left label : ℕ} → Trailing before u j m at left → j < max_steps → left ≤ 0 →
      PutsStep j (record { node = u; label = label }) m m' → Closes u label j before m'
  trailing_all {m} {m'} {at} {left} {label} t h none p =
      let zero_left : left ≡ 0 = omega arith in
      let all : j - left ≡ j = omega arith in
      let last : Taken = record { node = u; label = label } in
      let taken : ℕ → search.Taken = λ x. taken_of (taken_in m' x) in
      let same : steps_from m' 0 j ≡ steps_from m 0 j = map_same taken (λ x. taken_of (taken_in m x)) (up_from 0 j) (λ x e.
      let r = mem-of-up_from 0 j e in
      ap taken_of (p.steps x (omega (arith, r)) ∙ ap (λ b. cond b last (taken_in m x)) (ne_eqb x j (λ q. omega (arith, r, q))))) in record {
        steps =
            ap (map taken) (up_from-append 0 j 1) ∙ map-append taken (up_from 0 j) (up_from (0 + j) 1)
            ∙ ap₂ (λ xs (x : Taken). xs ++ (taken_of x ∷ []))
            (same ∙ sym (ap₂ (steps_from m) zero_left all) ∙ t.steps ∙ ap (λ (k : ℕ). trail (state_in before).parent (state_in before).label k u) all)
            (ap (taken_in m') (zero-add j) ∙ p.steps j h ∙ ap (λ b. cond b last (taken_in m j)) (eq-eqb j j refl));
        only = only_trans t.only p.only;
      }

-- every node on the way is one of the first, and its link stands as it did
module _ {before : List ℕ} {u j : ℕ} (k : Climbs before u) (way : Before (state_in before).parent 0 j u) {m : List ℕ} {at left : ℕ}
    (t : Trailing before u j m at left) where
  pub trailing_below : at < max_nodes
  trailing_below = subst (λ (x : ℕ). x < max_nodes) (sym t.place) (climbs_below k (j - left) (λ i l. way i (omega arith)))

  pub trailing_above : 0 < left → (link_in before at).parent < max_nodes
  trailing_above some =
      let up = (state_in before).parent in
      subst (λ (x : ℕ). x < max_nodes) (above-next up (j - left) u ∙ ap up (sym t.place))
      (climbs_below k (suc (j - left)) (λ i l. way i (omega (arith, t.most))))

  pub trailing_same : link_in m at ≡ link_in before at
  trailing_same = only-links t.only at trailing_below
