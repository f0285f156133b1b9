-- `mask_text::put_masks` meets its contract: the lines are those of the table.
-- Assumes nothing.
use mathlib.Core.Path.{◌≡◌, refl, ap}
use mathlib.Core.List.{List}
use Prim.Native.Nat.{ℕ}
use native.Mathlib.Omega.{arith}
use lib.ListN.{length}
use Rattle.model.specs.Lists.{flat_map}
use Rattle.model.specs.Masks.{group, groups_below, mask_table}
use Rattle.model.specs.Text.{decimal, number_line, mask_text}
use Rattle.text.proofs.Put.{put-inside}
use Rattle.mask_text.proofs.put_masks.Goals as goal

-- so long is the text
text-length : length mask_text ≡ 4010
unfolding mask_text mask_table groups_below group decimal
text-length = refl

pub put_lines-requires : goal.put_lines-requires
unfolding mask_text
put_lines-requires c =
    omega (arith, c.requires, text-length, ap (λ (l : List ℕ). length (flat_map number_line l)) c.make_table-table.ensures)

pub returns : goal.returns
unfolding mask_text
returns c = let put = rw c.make_table-table.ensures at c.put_lines.ensures in record { put = put; prefix_len = put-inside _ _ mask_text _ put }
