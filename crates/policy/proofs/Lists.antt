-- Laws of flat_map and of tables.
-- Assumes nothing.
use mathlib.Core.Path.{◌≡◌, refl, sym, ◌∙◌, ap}
use mathlib.Core.Bool.{Bool}
use mathlib.Core.List.{List, [], ◌∷◌, ◌++◌, map, map-append, append-nil}
use Prim.Native.Nat.{ℕ, zero, suc, ◌+◌}
use native.Mathlib.Nat.{zero-add, suc-add}
use native.Mathlib.Omega.{arith}
use lib.ListN.{length, drop, length-map, length-append, drop_of_length-le}
use lib.Seq.{take_at}
use Rattle.model.specs.Bytes.{overwrite}
use Rattle.model.specs.Lists.{keep, flat_map, up_from}
use Rattle.model.proofs.Lists.{keep_append, length-up_from}

module _ {ℓ κ} {A : Type ℓ} {B : Type κ} where
  pub keep-flat_map : (p : B → Bool) (f : A → List B) (l : List A) → keep p (flat_map f l) ≡ flat_map (λ a. keep p (f a)) l
  keep-flat_map p f [] = refl
  keep-flat_map p f (x ∷ l) = keep_append p (f x) (flat_map f l) ∙ ap (λ k. keep p (f x) ++ k) (keep-flat_map p f l)

module _ {ℓ κ μ} {A : Type ℓ} {B : Type κ} {C : Type μ} where
  pub map-flat_map : (h : B → C) (f : A → List B) (l : List A) → map h (flat_map f l) ≡ flat_map (λ a. map h (f a)) l
  map-flat_map h f [] = refl
  map-flat_map h f (x ∷ l) = map-append h (f x) (flat_map f l) ∙ ap (λ k. map h (f x) ++ k) (map-flat_map h f l)

-- the numbers from k + m up are those from k up, m higher
pub flat_map_shift {ℓ} : {B : Type ℓ} (f : ℕ → List B) (k m n : ℕ) → flat_map f (up_from (k + m) n) ≡ flat_map (λ j. f (j + m)) (up_from k n)
flat_map_shift f k m zero = refl
flat_map_shift f k m (suc n) = ap (λ l. f (k + m) ++ l) (ap (λ j. flat_map f (up_from j n)) (sym (suc-add k m)) ∙ flat_map_shift f (suc k) m n)

-- ---- tables

-- the numbers from k + m up are those from k up, m higher
pub map_shift {ℓ} : {B : Type ℓ} (f : ℕ → B) (k m n : ℕ) → map f (up_from (k + m) n) ≡ map (λ j. f (j + m)) (up_from k n)
map_shift f k m zero = refl
map_shift f k m (suc n) = ap (λ l. f (k + m) ∷ l) (ap (λ j. map f (up_from j n)) (sym (suc-add k m)) ∙ map_shift f (suc k) m n)

pub length-table {ℓ} : {B : Type ℓ} (f : ℕ → B) (n : ℕ) → length (map f (up_from 0 n)) ≡ n
length-table f n = length-map (up_from 0 n) f ∙ length-up_from 0 n

-- ---- writes to the front and to the end of a list

pub write-front : (m bs : List ℕ) (n : ℕ) → length bs ≡ n → overwrite m 0 bs ≡ bs ++ drop n m
unfolding overwrite
write-front m bs n e = rw (zero-add, e)

pub write-end : (xs ys bs : List ℕ) (n : ℕ) → length xs ≡ n → length bs ≡ length ys → overwrite (xs ++ ys) n bs ≡ xs ++ bs
unfolding overwrite
write-end xs ys bs n e same =
    rw (take_at xs ys n e, drop_of_length-le (xs ++ ys) {i = n + length bs} (omega (arith, length-append xs ys))) (append-nil (xs ++ bs))
