-- Laws of all, for any lists and for numbers upward.
-- Assumes nothing.
use mathlib.Core.Path.{◌≡◌, refl, sym, ap, ap₂, ◌∙◌}
use mathlib.Core.Bool.{Bool, true, false, ◌&&◌, and_assoc}
use mathlib.Core.List.{List, [], ◌∷◌, ◌++◌, map, Memᴰ}
use Prim.Native.Nat.{ℕ, ◌+◌, ◌≤◌, ◌<◌}
use native.Mathlib.Nat.{zero-add}
use native.Mathlib.Numerals.{add-one}
use native.Mathlib.Omega.{arith}
use lib.ListN.{length, get_or, drop, drop_of_length-le}
use lib.Seq.{drop-cons}
use Rattle.model.specs.Lists.{all, flat_map, up_from}
use Rattle.model.proofs.Lists.{up_from-append, length-up_from, get_or-up_from, mem-get_or}
use Rattle.model.proofs.Tests.{is_true, is_false, holds, fails, true-and, all-each}

module _ {ℓ} {A : Type ℓ} where
  pub all_append : (f : A → Bool) (l l' : List A) → all f (l ++ l') ≡ (all f l && all f l')
  all_append f [] l' = refl
  all_append f (x ∷ l) l' = ap (λ (b : Bool). f x && b) (all_append f l l') ∙ sym (and_assoc (f x) (all f l) (all f l'))

  -- two tests that agree on the list
  pub all_same : (f g : A → Bool) (l : List A) → ((a : A) → Memᴰ a l → f a ≡ g a) → all f l ≡ all g l
  all_same f g [] h = refl
  all_same f g (x ∷ l) h = ap₂ (λ b c. b && c) (h x (Memᴰ.head refl)) (all_same f g l (λ a m. h a (Memᴰ.tail m)))

  -- where an element fails, not all pass
  pub all_fails : (f : A → Bool) (l : List A) (d : A) (i : ℕ) → i < length l → f (get_or l i d) ≡ false → all f l ≡ false
  all_fails f l d i h e =
      is_false (all f l) (λ t. fails e (holds ((all-each f l).0 (is_true (all f l) t) (get_or l i d) (mem-get_or l i d h))))

-- of those from a place on
module _ {ℓ} {A : Type ℓ} (f : A → Bool) (l : List A) (d : A) where
  pub all_from : (i : ℕ) → i < length l → all f (drop i l) ≡ (f (get_or l i d) && all f (drop (i + 1) l))
  all_from i h = ap (all f) (drop-cons l i d h) ∙ ap (λ (k : ℕ). f (get_or l i d) && all f (drop k l)) (sym (add-one i))

  pub all_done : (i : ℕ) → length l ≤ i → all f (drop i l) ≡ true
  all_done i h = ap (all f) (drop_of_length-le l h)

module _ {ℓ ℓ'} {A : Type ℓ} {B : Type ℓ'} (f : B → Bool) where
  pub all_map : (g : A → B) (l : List A) → all f (map g l) ≡ all (λ a. f (g a)) l
  all_map g [] = refl
  all_map g (x ∷ l) = ap (λ (b : Bool). f (g x) && b) (all_map g l)

  pub all-flat_map : (g : A → List B) (l : List A) → all f (flat_map g l) ≡ all (λ a. all f (g a)) l
  all-flat_map g [] = refl
  all-flat_map g (x ∷ l) = all_append f (g x) (flat_map g l) ∙ ap (λ (b : Bool). all f (g x) && b) (all-flat_map g l)

-- of numbers upward
module _ (f : ℕ → Bool) where
  -- one more passes
  pub all-next : (k : ℕ) → all f (up_from 0 k) ≡ true → f k ≡ true → all f (up_from 0 (k + 1)) ≡ true
  all-next k before here =
      ap (all f) (up_from-append 0 k 1) ∙ all_append f (up_from 0 k) (up_from (0 + k) 1)
      ∙ true-and (all f (up_from 0 k)) (f (0 + k) && true) before (true-and (f (0 + k)) true (ap f (zero-add k) ∙ here) refl)

  -- one fails
  pub all_stops : (k n : ℕ) → k < n → f k ≡ false → all f (up_from 0 n) ≡ false
  all_stops k n h e =
      all_fails f (up_from 0 n) 0 k (omega (arith, length-up_from 0 n)) (ap f (get_or-up_from 0 n k 0 h ∙ zero-add k) ∙ e)
