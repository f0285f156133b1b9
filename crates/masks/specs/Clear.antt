-- The masks that are clear of a pattern, of the table and of runs of neighbouring bits.
use Rattle.std.specs.Prelude.{◌≡◌, Bool, List, map, ℕ, ◌+◌, ◌-◌, ◌*◌, ◌^◌, ◌≤◌, eqb}
use Rattle.std.specs.Int.Bits.{bit_and}
use Rattle.model.specs.Bytes.{part, Only}
use Rattle.model.specs.Lists.{keep, up_from}
use Rattle.model.specs.Masks.{mask_table}

-- whether a mask is clear of the pattern
abbrev pub clear_of : ℕ → ℕ → Bool
clear_of taken m = eqb (bit_and m taken) 0

-- the masks of the table from at up to end that are clear of the pattern
unfoldable pub clear_in : ℕ → ℕ → ℕ → List ℕ
clear_in taken at end = keep (clear_of taken) (part mask_table at (end - at))

-- so many masks from the first up, each twice the one before, that are clear of the pattern
unfoldable pub clear_runs : ℕ → ℕ → ℕ → List ℕ
clear_runs taken first count = keep (clear_of taken) (map (λ k. first * 2 ^ k) (up_from 0 count))

-- these masks stand from a place up to r, and only as many places as there is room for have changed
pub record Lists (masks : List ℕ) (room from : ℕ) (before after : List ℕ) (r : ℕ) : Type 0 where
  pub listed : part after from (r - from) ≡ masks
  pub starts : from ≤ r
  pub ends : r ≤ from + room
  pub only : Only from room before after
