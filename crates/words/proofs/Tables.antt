-- Laws of a table that a loop writes, one entry a turn.
-- Assumes nothing.
use mathlib.Core.Path.{◌≡◌, sym, ◌∙◌, ap}
use mathlib.Core.List.{List, map}
use Prim.Native.Nat.{ℕ, ◌+◌, ◌<◌}
use native.Mathlib.Omega.{arith}
use lib.ListN.{length, set, length-map}
use Rattle.model.specs.Bytes.{overwrite}
use Rattle.model.specs.Lists.{up_from}
use Rattle.model.proofs.Lists.{length-up_from, table-from}
use Rattle.words.proofs.Memory.{overwrite-all, overwrite-more}

-- a table that is written from its front, one store a turn
module _ (f : ℕ → ℕ) (i : ℕ) (before : List ℕ) where
  size : (k : ℕ) → length (map f (up_from i k)) ≡ k
  size k = length-map (up_from i k) f ∙ length-up_from i k

  pub written-more : (at k p j : ℕ) {v : ℕ} {now : List ℕ} → p ≡ at + k → j ≡ i + k → p < length before → v ≡ f j
      → now ≡ overwrite before at (map f (up_from i k)) → set now p v ≡ overwrite before at (map f (up_from i (k + 1)))
  written-more at k p j ep ej lt e w =
      (λ x. set (w x) (ep x) ((e ∙ ap f ej) x))
      ∙ overwrite-more before at (map f (up_from i k)) k (f (i + k)) (size k) (omega arith)
      ∙ ap (overwrite before at) (sym (table-from f i k))

  pub written_all : (k n : ℕ) {now : List ℕ} → k ≡ n → n ≡ length before → now ≡ overwrite before 0 (map f (up_from i k)) → now ≡ map f (up_from i n)
  written_all k n e fits w =
      w ∙ ap (λ m. overwrite before 0 (map f (up_from i m))) e ∙ overwrite-all before (map f (up_from i n)) (size n ∙ fits)
