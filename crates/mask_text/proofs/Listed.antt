-- Masks listed one after another, and lines.
-- Assumes nothing.
use mathlib.Core.Path.{◌≡◌, sym, ap, ◌∙◌}
use mathlib.Core.Bool.{Bool}
use mathlib.Core.List.{List, [], ◌∷◌, ◌++◌, append-nil}
use Prim.Native.Nat.{ℕ, ◌+◌, ◌-◌, ◌≤◌, ◌<◌}
use native.Mathlib.Nat.{zero-add, add-sub_of_le}
use native.Mathlib.Numerals.{add-one}
use native.Mathlib.Omega.{arith}
use lib.ListN.{length, get_or, take, drop, length-append, take-append-drop}
use lib.Seq.{take-suc}
use Rattle.model.specs.Lists.{keep, flat_map, up_from}
use Rattle.model.proofs.Lists.{keep_append, flat_map-append, up_from-append}

module _ (f : ℕ → Bool) where
  -- one number more
  pub keep-more : (m : ℕ) → keep f (up_from 0 m) ++ keep f (m ∷ []) ≡ keep f (up_from 0 (m + 1))
  keep-more m =
      sym (keep_append f (up_from 0 m) (m ∷ []))
      ∙ ap (λ (k : ℕ). keep f (up_from 0 m ++ (k ∷ []))) (sym (zero-add m))
      ∙ ap (keep f) (sym (up_from-append 0 m 1))

  -- the first ones are no more than all
  pub keep-first : (m n : ℕ) → m ≤ n → length (keep f (up_from 0 m)) ≤ length (keep f (up_from 0 n))
  keep-first m n h =
      let split : keep f (up_from 0 n) ≡ keep f (up_from 0 m) ++ keep f (up_from (0 + m) (n - m)) =
      ap (λ (k : ℕ). keep f (up_from 0 k)) (sym (add-sub_of_le h)) ∙ ap (keep f) (up_from-append 0 m (n - m)) ∙ keep_append f (up_from 0 m) (up_from (0 + m) (n - m)) in
      omega (arith, ap length split, length-append (keep f (up_from 0 m)) (keep f (up_from (0 + m) (n - m))))

module _ (f : ℕ → List ℕ) (l : List ℕ) where
  -- one element more
  pub lines_more : (i : ℕ) → i < length l → flat_map f (take i l) ++ f (get_or l i 0) ≡ flat_map f (take (i + 1) l)
  lines_more i h =
      ap (λ k. flat_map f (take i l) ++ k) (sym (append-nil (f (get_or l i 0))))
      ∙ sym (flat_map-append f (take i l) (get_or l i 0 ∷ []))
      ∙ ap (flat_map f) (sym (take-suc l i 0 h) ∙ ap (λ (k : ℕ). take k l) (sym (add-one i)))

  pub lines_first : (i : ℕ) → length (flat_map f (take i l)) ≤ length (flat_map f l)
  lines_first i =
      omega (
        arith,
        ap length (ap (flat_map f) (sym (take-append-drop i l)) ∙ flat_map-append f (take i l) (drop i l)),
        length-append (flat_map f (take i l)) (flat_map f (drop i l)),
      )
