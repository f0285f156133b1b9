-- `mask_text::make_table` meets its contract: the groups of fewer than c ones are listed.
-- Assumes nothing.
use mathlib.Core.Path.{◌≡◌}
use lib.ListN.{length, replicate}
use Rattle.model.specs.Bytes.{Put}
use Rattle.model.specs.Masks.{mask_count, groups_below}
use Rattle.mask_text.proofs.make_table.Given as goal

abbrev pub invariant-loop-c : goal.invariant-loop-c
invariant-loop-c l =
    (length l.table ≡ mask_count) × Put (replicate mask_count 0) l.table 0 (groups_below l.c) l.end
