-- `masks::table` meets its contract: the constant is the table, by one test that antt computes.
-- Assumes nothing.
use mathlib.Core.Path.{refl}
use Rattle.model.specs.Masks.{group, groups_below, mask_table}
use Rattle.masks.proofs.table.Goals as goal

pub returns : goal.returns
unfolding mask_table groups_below group
returns c = refl
