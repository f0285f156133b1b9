-- Lists without repeats.
-- Assumes nothing.
use mathlib.Core.Path.{◌≡◌, refl, sym, ◌∙◌, ap}
use mathlib.Core.Logic.{⊎_elim}
use mathlib.Core.List.{List, [], ◌∷◌, ◌++◌, Memᴰ}
use Prim.Native.Nat.{ℕ, zero, suc, ◌<◌, ◌≤◌}
use native.Mathlib.Nat.{not-suc-le-zero, le_of_suc-le-suc}
use native.Mathlib.Omega.{arith}
use lib.ListN.{length, get_or}
use Rattle.model.proofs.Lists.{mem-get_or}

module _ {ℓ} {A : Type ℓ} where
  -- no two elements are the same
  abbrev pub Distinct : List A → Type ℓ
  Distinct [] = Unit {ℓ}
  Distinct (x ∷ l) = (Memᴰ x l → ⊥) × Distinct l

  -- one more, that is not among them
  pub distinct_snoc : (l : List A) (x : A) → Distinct l → (Memᴰ x l → ⊥) → Distinct (l ++ (x ∷ []))
  distinct_snoc [] x d n = (mathlib.Core.List.Memᴰ.not-nil, tt)
  distinct_snoc (y ∷ l) x d n = (
    λ m. ⊎_elim d.0 (λ h. n (mathlib.Core.List.Memᴰ.head (sym (mathlib.Core.List.Memᴰ.eq_of_singleton h)))) (mathlib.Core.List.Memᴰ.append_cases l m),
    distinct_snoc l x d.1 (λ m. n (mathlib.Core.List.Memᴰ.tail m)),
  )

  -- the same element stands at one place only
  pub distinct-at : (l : List A) (d : A) → Distinct l → (i j : ℕ) → i < length l → j < length l → get_or l i d ≡ get_or l j d → i ≡ j
  distinct-at [] d s i j h k e = absurd (not-suc-le-zero h)
  distinct-at (x ∷ l) d s zero zero h k e = refl
  distinct-at (x ∷ l) d s zero (suc j) h k e = absurd (s.0 (mathlib.Core.List.Memᴰ.cast e (mem-get_or l j d (le_of_suc-le-suc k))))
  distinct-at (x ∷ l) d s (suc i) zero h k e = absurd (s.0 (mathlib.Core.List.Memᴰ.cast (sym e) (mem-get_or l i d (le_of_suc-le-suc h))))
  distinct-at (x ∷ l) d s (suc i) (suc j) h k e = ap suc (distinct-at l d s.1 i j (le_of_suc-le-suc h) (le_of_suc-le-suc k) e)

  -- the list without the element at a place
  without : {a : A} {l : List A} → Memᴰ a l → List A
  without (mathlib.Core.List.Memᴰ.head {xs = xs} p) = xs
  without (mathlib.Core.List.Memᴰ.tail {x = x} m) = x ∷ without m

  -- it has one element less
  length_without : {a : A} {l : List A} (m : Memᴰ a l) → suc (length (without m)) ≡ length l
  unfolding without
  length_without (mathlib.Core.List.Memᴰ.head p) = refl
  length_without (mathlib.Core.List.Memᴰ.tail m) = ap suc (length_without m)

  -- and holds every other
  mem_without : {a b : A} {l : List A} (m : Memᴰ a l) → Memᴰ b l → (b ≡ a → ⊥) → Memᴰ b (without m)
  unfolding without
  mem_without (mathlib.Core.List.Memᴰ.head p) k n = ⊎_elim (λ q. absurd (n (q ∙ sym p))) (λ h. h) (mathlib.Core.List.Memᴰ.cases_cons k)
  mem_without (mathlib.Core.List.Memᴰ.tail m) k n =
      ⊎_elim (λ q. mathlib.Core.List.Memᴰ.head q) (λ h. mathlib.Core.List.Memᴰ.tail (mem_without m h n)) (mathlib.Core.List.Memᴰ.cases_cons k)

  -- different elements of a list are no more than the list has
  pub distinct-le : (l k : List A) → Distinct l → ((a : A) → Memᴰ a l → Memᴰ a k) → length l ≤ length k
  distinct-le [] k s h = omega arith
  distinct-le (x ∷ l) k s h =
      let m : Memᴰ x k = h x (mathlib.Core.List.Memᴰ.head refl) in
      let shorter : length l ≤ length (without m) =
      distinct-le l (without m) s.1 (λ a j. mem_without m (h a (mathlib.Core.List.Memᴰ.tail j)) (λ e. s.0 (mathlib.Core.List.Memᴰ.cast (sym e) j))) in
      omega (arith, length_without m)
