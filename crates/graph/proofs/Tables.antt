-- Laws of tables of a function, and of the count of the elements kept.
-- Assumes nothing.
use mathlib.Core.Path.{◌≡◌, sym, ◌∙◌}
use mathlib.Core.Bool.{Bool, true, false}
use mathlib.Core.List.{List, [], ◌∷◌, map}
use Prim.Native.Nat.{ℕ, zero, suc, ◌+◌, ◌<◌}
use native.Mathlib.Nat.{not-suc-le-zero, le_of_suc-le-suc}
use native.Mathlib.Decide.{dec_lt}
use native.Mathlib.Omega.{arith}
use lib.ListN.{length, get_or, set, replicate, length-set, length-replicate, get_or-replicate}
use lib.Seq.{ext_get_or, get_or-set_same, get_or-set_other}
use Rattle.model.specs.Lists.{cons_if, keep, up_from, one}
use Rattle.model.proofs.Lists.{get_or-table}
use Rattle.policy.proofs.Lists.{length-table}

module _ {ℓ} {A : Type ℓ} (f g : ℕ → A) (n : ℕ) where
  pub table_same : ((k : ℕ) → k < n → g k ≡ f k) → map g (up_from 0 n) ≡ map f (up_from 0 n)
  table_same same =
      ext_get_or (g 0) (map g (up_from 0 n)) (map f (up_from 0 n)) (length-table g n ∙ sym (length-table f n))
      (λ k h.
      let lt : k < n = omega (arith, length-table g n) in get_or-table g n k (g 0) lt ∙ same k lt ∙ sym (get_or-table f n k (g 0) lt))

  -- one other entry
  pub table-set : (p : ℕ) → p < n → ((k : ℕ) → k < n → (k ≡ p → ⊥) → g k ≡ f k) → map g (up_from 0 n) ≡ set (map f (up_from 0 n)) p (g p)
  table-set p below other =
      ext_get_or (g p) (map g (up_from 0 n)) (set (map f (up_from 0 n)) p (g p))
      (length-table g n ∙ sym (length-set (map f (up_from 0 n)) p (g p) ∙ length-table f n))
      (λ k h. at k (omega (arith, length-table g n)) (dec_lt k p) (dec_lt p k))
    where
      elsewhere : (k : ℕ) → k < n → (k ≡ p → ⊥) → get_or (map g (up_from 0 n)) k (g p) ≡ get_or (set (map f (up_from 0 n)) p (g p)) k (g p)
      elsewhere k lt ne =
          get_or-table g n k (g p) lt ∙ other k lt ne
          ∙ sym (get_or-set_other (map f (up_from 0 n)) p k (g p) (g p) ne ∙ get_or-table f n k (g p) lt)

      at : (k : ℕ) → k < n → Dec (k < p) → Dec (p < k) → get_or (map g (up_from 0 n)) k (g p) ≡ get_or (set (map f (up_from 0 n)) p (g p)) k (g p)
      at k lt (yes h) d = elsewhere k lt (λ e. omega arith)
      at k lt (no h) (yes h') = elsewhere k lt (λ e. omega arith)
      at k lt (no h) (no h') =
          let e : k ≡ p = omega arith in
          rw e (get_or-table g n p (g p) below ∙ sym (get_or-set_same (map f (up_from 0 n)) p (g p) (g p) (omega (arith, length-table f n))))

module _ {ℓ} {A : Type ℓ} where
  pub table_const : (f : ℕ → A) (n : ℕ) (x : A) → ((k : ℕ) → k < n → f k ≡ x) → map f (up_from 0 n) ≡ replicate n x
  table_const f n x same =
      ext_get_or x (map f (up_from 0 n)) (replicate n x) (length-table f n ∙ sym (length-replicate n x))
      (λ k h.
      let lt : k < n = omega (arith, length-table f n) in get_or-table f n k x lt ∙ same k lt ∙ sym (get_or-replicate n k x x lt))

  length-cons_if : (b : Bool) (x : A) (l : List A) → length (cons_if b x l) ≡ one b + length l
  length-cons_if true x l = omega arith
  length-cons_if false x l = omega arith

  -- an element that is replaced
  pub length-keep-set : (f : A → Bool) (l : List A) (i : ℕ) (x d : A) → i < length l
      → length (keep f (set l i x)) + one (f (get_or l i d)) ≡ length (keep f l) + one (f x)
  length-keep-set f [] i x d h = absurd (not-suc-le-zero h)
  length-keep-set f (y ∷ l) zero x d h = omega (arith, length-cons_if (f x) x (keep f l), length-cons_if (f y) y (keep f l))
  length-keep-set f (y ∷ l) (suc i) x d h =
      omega (
        arith,
        length-cons_if (f y) y (keep f (set l i x)),
        length-cons_if (f y) y (keep f l),
        length-keep-set f l i x d (le_of_suc-le-suc h),
      )
