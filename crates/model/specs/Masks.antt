-- Masks of ten bits, and the order of the constant table.
use Rattle.std.specs.Prelude.{ℕ, suc, ◌-◌, ◌*◌, ◌^◌, Bool, true, false, cond, ◌&&◌, List, [], ◌∷◌, eqb, length}
use Rattle.std.specs.Int.Bits.{bit_and}
use Rattle.model.specs.Limits.{max_window}
use Rattle.model.specs.Lists.{keep, any, flat_map, up_from, ones}
use Rattle.model.specs.Plan.{Task}

-- "The mask table grows to 1,024 entries"
abbrev pub mask_count : ℕ
mask_count = 2 ^ max_window

-- "grouped by their count of ones, upward in each group": the group of c ones
unfoldable pub group : ℕ → List ℕ
group c = keep (λ m. eqb (ones max_window m) c) (up_from 0 mask_count)

-- the groups of 0 to c − 1 ones, one after another
unfoldable pub groups_below : ℕ → List ℕ
groups_below c = flat_map group (up_from 0 c)

unfoldable pub mask_table : List ℕ
mask_table = groups_below (suc max_window)

-- where the group of c ones starts in the table
unfoldable pub group_start : ℕ → ℕ
group_start c = length (groups_below c)

-- "either 0, or, if the label releases it, C bits below bit D, clear of the pattern and of the other masks", upward
unfoldable pub free_masks : Task → Bool → ℕ → List ℕ
free_masks t false taken = 0 ∷ []
free_masks t true taken =
    0 ∷ keep (λ m. eqb (ones t.window m) t.work && eqb (bit_and m taken) 0) (up_from 1 (2 ^ t.window - 1))

-- c neighbouring bits from bit k on
abbrev pub bit_run : ℕ → ℕ → ℕ
bit_run c k = (2 ^ c - 1) * 2 ^ k

-- "a run of neighbouring bits": the mask's ones stand side by side among the lowest n bits; 0, which has none, passes
unfoldable pub neighbouring : ℕ → ℕ → Bool
neighbouring n m = any (λ k. eqb m (bit_run (ones n m) k)) (up_from 0 (suc n))

-- "For the clairvoyant, a locked task's mask is a run of neighbouring bits."
unfoldable pub masks_of : Task → Bool → ℕ → List ℕ
masks_of t released taken =
    let free = free_masks t released taken in
    cond t.locked (keep (neighbouring t.window) free) free
