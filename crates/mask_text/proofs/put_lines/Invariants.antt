-- `mask_text::put_lines` meets its contract: the lines of the numbers gone through are written.
-- Assumes nothing.
use lib.ListN.{take}
use Rattle.model.specs.Bytes.{Put}
use Rattle.model.specs.Lists.{flat_map}
use Rattle.model.specs.Text.{number_line}
use Rattle.mask_text.proofs.put_lines.Given as goal

abbrev pub invariant-loop-m : goal.invariant-loop-m
invariant-loop-m l =
    Put l.initial.out l.out 0 (flat_map number_line (take l.m-index l.table)) l.end
