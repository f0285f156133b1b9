-- `masks::group_start` meets its contract: the constant lists the starts, by one test that antt computes.
-- Assumes nothing.
use mathlib.Core.Path.{◌∙◌}
use Prim.Native.Nat.{suc}
use borrow.Author.Rules.{rules}
use Rattle.model.specs.Limits.{max_window}
use Rattle.model.specs.Masks.{group, groups_below, group_start}
use Rattle.model.proofs.Lists.{get_or-table}
use Rattle.masks.proofs.group_start.Goals as goal

pub returns : goal.returns
unfolding group_start groups_below group
returns c = c.from.ensures ∙ get_or-table group_start (suc (suc max_window)) c.args.c 0 (search rules)
