-- `run_block::run_parts` meets its contract: the parts so far are full, so with the next one they are the writes from the first on.
-- Assumes nothing.
use mathlib.Core.Path.{◌≡◌, refl}
use mathlib.Core.List.{[], ◌++◌}
use native.Mathlib.Omega.{arith}
use lib.ListN.{length, length-append}
use Rattle.block_text.specs.Lines.{part_bytes}
use Rattle.block_text.proofs.Parts.{runs_none, runs_parts}
use Rattle.run_block.proofs.run_parts.Goals as goal

pub loop-init : goal.loop-init
loop-init c = record { writes = []; even = refl; runs = runs_none _ _ _ c.requires }

pub run_part-count-requires : goal.run_part-count-requires
run_part-count-requires c = c.loop.invariant.runs.ready

pub returns-then-count-ne-PART : goal.returns-then-count-ne-PART
returns-then-count-ne-PART c =
    let h = c.loop.invariant in
    let p = c.run_part-count.ensures in
    (h.writes ++ p.0, runs_parts _ _ _ h.writes p.0 _ _ h.even h.runs p.2)

pub loop-preserved : goal.loop-preserved
loop-preserved c =
    let h = c.loop.invariant in
    let p = c.run_part-count.ensures in
    let full : length p.0 ≡ part_bytes = omega (arith, p.1, c.if-count-ne-PART.false) in
    record {
      writes = h.writes ++ p.0;
      even = omega (arith, h.even, full, length-append h.writes p.0);
      runs = runs_parts _ _ _ h.writes p.0 _ _ h.even h.runs p.2;
    }

pub returns : goal.returns
returns c = let h = c.loop.invariant in (h.writes, h.runs)
