-- `mask_text::list_group` meets its contract: the masks below m that have c ones are listed.
-- Assumes nothing.
use lib.Dec.{eqb}
use Rattle.model.specs.Bytes.{Put}
use Rattle.model.specs.Limits.{max_window}
use Rattle.model.specs.Lists.{keep, up_from, ones}
use Rattle.mask_text.proofs.list_group.Given as goal

abbrev pub invariant-loop-m : goal.invariant-loop-m
invariant-loop-m l =
    Put l.initial.table l.table l.at (keep (λ k. eqb (ones max_window k) l.c) (up_from 0 l.m)) l.end
