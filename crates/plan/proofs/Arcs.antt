-- The arcs of a table that holds an automaton's next states are the automaton's.
-- Assumes nothing.
use mathlib.Core.Path.{◌≡◌, refl, sym, ap, ap₂, ◌∙◌}
use mathlib.Core.Bool.{Bool, true, false, cond, ◌&&◌}
use mathlib.Core.List.{List, [], ◌∷◌, ◌++◌, append_assoc, append-nil}
use mathlib.Core.Option.{Option, none}
use Prim.Native.Nat.{ℕ, zero, suc, ◌+◌, ◌*◌, ◌^◌, ◌≤◌, ◌<◌}
use native.Mathlib.Nat.{add-suc, add-zero}
use native.Mathlib.Omega.{arith}
use borrow.Author.Tests.{lt-ltb, le-ltb}
use lib.Dec.{ltb}
use lib.ListN.{get_or}
use lib.Pow.{pow_mono}
use Rattle.model.specs.Limits.{max_tasks, max_states}
use Rattle.model.specs.Lists.{flat_map, up_from}
use Rattle.model.specs.Plan.{Arc}
use Rattle.model.specs.PlanBytes.{given_arc, arcs_of}
use Rattle.model.proofs.Lists.{flat_map-none, flat_map_snoc, mem-of-up_from}
use Rattle.plan.proofs.View.{pair_state, pair_label}
use Rattle.plan.specs.View.{label_count, arc_at, arcs_below, arcs_in, next_of}

-- ---- lists over the numbers from k up

module _ {B : Type 0} (g : ℕ → List B) where
  none_from : (k n : ℕ) → ((i : ℕ) → k ≤ i → i < k + n → g i ≡ []) → flat_map g (up_from k n) ≡ []
  none_from k n h = flat_map-none g (up_from k n) (λ i m. h i (mem-of-up_from k n m).0 (mem-of-up_from k n m).1)

  -- past m there is nothing, and before it the same
  flat_map-within : (f : ℕ → List B) (k m n : ℕ) → m ≤ n → ((i : ℕ) → k ≤ i → i < k + m → g i ≡ f i) → ((i : ℕ) → k + m ≤ i → i < k + n → g i ≡ []) →
      flat_map g (up_from k n) ≡ flat_map f (up_from k m)
  flat_map-within f k zero n l same past = none_from k n (λ i a b. past i (omega arith) b)
  flat_map-within f k (suc m) zero l same past = absurd (omega arith)
  flat_map-within f k (suc m) (suc n) l same past =
      ap₂ (λ (a b : List B). a ++ b) (same k (omega arith) (omega arith))
      (flat_map-within f (suc k) m n (omega arith) (λ i a b. same i (omega arith) (omega arith)) (λ i a b. past i (omega arith) (omega arith)))

-- ---- the table as an automaton

-- where the table leads
abbrev entry : List ℕ → ℕ → ℕ → Option ℕ
entry table s l = next_of (get_or table (s * label_count + l) 0)

pair_arc : (s l to : ℕ) → l < label_count → arc_at (s * label_count + l) to ≡ given_arc s l (next_of to)
pair_arc s l zero h = refl
pair_arc s l (suc t) h = λ i. record { from = pair_state s l h i; label = pair_label s l h i; to = t } ∷ []

module _ (table : List ℕ) where
  abbrev row : ℕ → ℕ → List Arc
  row s l = given_arc s l (entry table s l)

  -- the pairs of a state, one after another
  row-arcs : (s n : ℕ) → n ≤ label_count → arcs_below table (s * label_count + n) ≡ arcs_below table (s * label_count) ++ flat_map (row s) (up_from 0 n)
  row-arcs s zero h = ap (arcs_below table) (add-zero (s * label_count)) ∙ sym (append-nil (arcs_below table (s * label_count)))
  row-arcs s (suc n) h =
      ap (arcs_below table) (add-suc (s * label_count) n)
      ∙ ap₂ (λ (a b : List Arc). a ++ b) (row-arcs s n (omega arith)) (pair_arc s n (get_or table (s * label_count + n) 0) (omega arith))
      ∙ append_assoc (arcs_below table (s * label_count)) (flat_map (row s) (up_from 0 n)) (row s n)
      ∙ ap (λ (l : List Arc). arcs_below table (s * label_count) ++ l) (sym (flat_map_snoc (row s) n))

  states-arcs : (n : ℕ) → arcs_below table (n * label_count) ≡ flat_map (λ s. flat_map (row s) (up_from 0 label_count)) (up_from 0 n)
  states-arcs zero = refl
  states-arcs (suc n) =
      ap (arcs_below table) next_row ∙ row-arcs n label_count (omega arith)
      ∙ ap (λ (l : List Arc). l ++ flat_map (row n) (up_from 0 label_count)) (states-arcs n)
      ∙ sym (flat_map_snoc (λ s. flat_map (row s) (up_from 0 label_count)) n)
    where
      next_row : suc n * label_count ≡ n * label_count + label_count
      next_row = omega arith

  -- a table that leads where the automaton does, and nowhere else, has its arcs
  pub table-arcs : (states count : ℕ) (next : ℕ → ℕ → Option ℕ) → states ≤ max_states → count ≤ max_tasks →
      ((s l : ℕ) → s < max_states → l < label_count → entry table s l ≡ cond (ltb s states && ltb l (2 ^ count)) (next s l) none) →
      arcs_in table ≡ arcs_of states count next
  unfolding arcs_in arcs_of
  table-arcs states count next few tasks leads =
      states-arcs max_states
      ∙ flat_map-within (λ s. flat_map (row s) (up_from 0 label_count)) (λ s. flat_map (λ l. given_arc s l (next s l)) (up_from 0 (2 ^ count))) 0 states max_states few
      inside outside
    where
      labels : 2 ^ count ≤ label_count
      labels = pow_mono tasks

      led : (s l : ℕ) (a b : Bool) → s < max_states → l < label_count → ltb s states ≡ a → ltb l (2 ^ count) ≡ b → row s l ≡ given_arc s l (cond (a && b) (next s l) none)
      led s l a b h k e f = ap (given_arc s l) (leads s l h k ∙ (λ i. cond (e i && f i) (next s l) none))

      inside : (s : ℕ) → 0 ≤ s → s < 0 + states → flat_map (row s) (up_from 0 label_count) ≡ flat_map (λ l. given_arc s l (next s l)) (up_from 0 (2 ^ count))
      inside s z h =
          flat_map-within (row s) (λ l. given_arc s l (next s l)) 0 (2 ^ count) label_count labels
          (λ l y k. led s l true true (omega arith) (omega (arith, labels)) (lt-ltb s states (omega arith)) (lt-ltb l (2 ^ count) (omega arith)))
          (λ l y k. led s l true false (omega arith) (omega arith) (lt-ltb s states (omega arith)) (le-ltb l (2 ^ count) (omega arith)))

      outside : (s : ℕ) → 0 + states ≤ s → s < 0 + max_states → flat_map (row s) (up_from 0 label_count) ≡ []
      outside s h k = none_from (row s) 0 label_count (λ l y m. led s l false (ltb l (2 ^ count)) (omega arith) (omega arith) (le-ltb s states (omega arith)) refl)
