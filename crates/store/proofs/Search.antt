-- Laws of a search among rows. Assumes nothing.
use mathlib.Core.Path.{◌≡◌, refl, sym, ◌∙◌}
use mathlib.Core.Bool.{Bool, true, false, false≢true}
use mathlib.Core.Logic.{◌↔◌}
use mathlib.Core.List.Memᴰ
use mathlib.Core.List.{List, [], ◌∷◌, ◌++◌}
use Prim.Native.Nat.{ℕ, ◌+◌, ◌≤◌, ◌<◌}
use native.Mathlib.Decide.{dec_lt}
use native.Mathlib.Omega.{arith}
use lib.ListN.{length, get_or, length-append, get_or-append}
use lib.Seq.{get_or_at}
use Rattle.model.specs.Lists.{same_numbers}
use Rattle.model.proofs.Discovery.{number_at, number-le, number-mem}
use Rattle.model.proofs.Lists.{mem-get_or}
use Rattle.model.proofs.Tests.{same_numbers_lem}
use Rattle.store.specs.Store.{index_in, Distinct}

pub other_numbers : (xs ys : List ℕ) → (same_numbers xs ys ≡ false) ↔ (xs ≡ ys → ⊥)
other_numbers xs ys = go (same_numbers xs ys) refl
  where
    go : (b : Bool) → same_numbers xs ys ≡ b → (b ≡ false) ↔ (xs ≡ ys → ⊥)
    go true e = (λ f. absurd (false≢true (sym f)), λ n. absurd (n ((same_numbers_lem xs ys).0 e)))
    go false e = (λ f p. false≢true (sym e ∙ (same_numbers_lem xs ys).1 p), λ n. refl)

pub index-le : (rows : List (List ℕ)) (row : List ℕ) → index_in rows row ≤ length rows
unfolding index_in
index-le = number-le same_numbers same_numbers_lem

-- where none is equal, none is found
pub index-none : (rows : List (List ℕ)) (row : List ℕ) → ((j : ℕ) → j < length rows → get_or rows j [] ≡ row → ⊥)
    → index_in rows row ≡ length rows
unfolding index_in
index-none rows row none = go (dec_lt (index_in rows row) (length rows))
  where
    go : Dec (index_in rows row < length rows) → index_in rows row ≡ length rows
    go (yes h) =
        absurd (none (index_in rows row) h (number_at same_numbers same_numbers_lem rows row [] (number-mem same_numbers same_numbers_lem rows row h)).1)
    go (no h) = omega (arith, index-le rows row)

-- the number of a row that is there
there : (rows : List (List ℕ)) (row : List ℕ) (i : ℕ) → i < length rows → get_or rows i [] ≡ row →
    (index_in rows row < length rows) × (get_or rows (index_in rows row) [] ≡ row)
unfolding index_in
there rows row i below e = number_at same_numbers same_numbers_lem rows row [] (Memᴰ.cast (sym e) (mem-get_or rows i [] below))

-- of distinct rows, an equal one is found
pub index_at : {rows : List (List ℕ)} {row : List ℕ} (i : ℕ) → Distinct rows → i < length rows → get_or rows i [] ≡ row → index_in rows row ≡ i
index_at {rows} {row} i distinct below e =
    let r = there rows row i below e in
    distinct.apart (index_in rows row) i r.0 below (r.1 ∙ sym e)

-- distinct rows and one that is not among them
pub distinct_snoc : (rows : List (List ℕ)) (row : List ℕ) → Distinct rows → index_in rows row ≡ length rows → Distinct (rows ++ (row ∷ []))
distinct_snoc rows row distinct out = record { apart = λ i j hi hj e. go i j (rw length-append at hi) (rw length-append at hj) e (dec_lt i n) (dec_lt j n) }
  where
    n : ℕ
    n = length rows

    all : List (List ℕ)
    all = rows ++ (row ∷ [])

    inside : (i : ℕ) → i < n → get_or all i [] ≡ get_or rows i []
    inside i h = get_or-append rows (row ∷ []) [] i h

    last : (i : ℕ) → n ≡ i → get_or all i [] ≡ row
    last i h = get_or_at rows row [] [] i h

    new : (i j : ℕ) → i < n → n ≡ j → get_or all i [] ≡ get_or all j [] → ⊥
    new i j h k e = absurd (omega (arith, out, (there rows row i h (sym (inside i h) ∙ e ∙ last j k)).0))

    go : (i j : ℕ) → i < n + 1 → j < n + 1 → get_or all i [] ≡ get_or all j [] → Dec (i < n) → Dec (j < n) → i ≡ j
    go i j hi hj e (yes a) (yes b) = distinct.apart i j a b (sym (inside i a) ∙ e ∙ inside j b)
    go i j hi hj e (yes a) (no b) = absurd (new i j a (omega arith) e)
    go i j hi hj e (no a) (yes b) = absurd (new j i b (omega arith) (sym e))
    go i j hi hj e (no a) (no b) = omega arith
