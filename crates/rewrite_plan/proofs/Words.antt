-- The longest word by its bytes.
-- Assumes nothing.
use mathlib.Core.Path.{◌≡◌, refl, sym, ap, ◌∙◌}
use mathlib.Core.List.{List, [], ◌∷◌}
use Prim.Native.Nat.{ℕ, ◌≤◌, ◌<◌}
use native.Mathlib.Omega.{arith}
use lib.ListN.{length, get_or}
use Rattle.std.specs.Prelude.{Some}
use Rattle.rewrite_plan.specs.Commands.{combine_word, word_in}
use Rattle.rewrite_plan.specs.declared.Word.TheVariants as word

-- seven bytes are one list
seven : (s : List ℕ) → 7 ≤ length s → length s < 8 →
    s ≡ get_or s 0 0 ∷ get_or s 1 0 ∷ get_or s 2 0 ∷ get_or s 3 0 ∷ get_or s 4 0 ∷ get_or s 5 0 ∷ get_or s 6 0 ∷ []
seven (a ∷ b ∷ c ∷ d ∷ e ∷ f ∷ g ∷ []) low high = refl
seven [] low high = absurd (omega arith)
seven (a ∷ []) low high = absurd (omega arith)
seven (a ∷ b ∷ []) low high = absurd (omega arith)
seven (a ∷ b ∷ c ∷ []) low high = absurd (omega arith)
seven (a ∷ b ∷ c ∷ d ∷ []) low high = absurd (omega arith)
seven (a ∷ b ∷ c ∷ d ∷ e ∷ []) low high = absurd (omega arith)
seven (a ∷ b ∷ c ∷ d ∷ e ∷ f ∷ []) low high = absurd (omega arith)
seven (a ∷ b ∷ c ∷ d ∷ e ∷ f ∷ g ∷ h ∷ s) low high = absurd (omega arith)

pub combine_is : (s : List ℕ) → 7 ≤ length s → length s < 8 → get_or s 0 0 ≡ 99 → get_or s 1 0 ≡ 111 → get_or s 2 0 ≡ 109 → get_or s 3 0 ≡ 98 →
    get_or s 4 0 ≡ 105 → get_or s 5 0 ≡ 110 → get_or s 6 0 ≡ 101 → Some word.Combine ≡ word_in s
combine_is s low high a b c d e f g =
    let same : s ≡ combine_word = seven s low high ∙ (λ i. a i ∷ b i ∷ c i ∷ d i ∷ e i ∷ f i ∷ g i ∷ []) in
    sym (ap word_in same)
