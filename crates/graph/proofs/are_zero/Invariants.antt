-- `graph::are_zero` meets its contract: so far the masks are 0.
use mathlib.Core.Path.{◌≡◌}
use lib.ListN.{drop}
use Rattle.words.specs.Packed.{unpacked}
use Rattle.graph.specs.Choice.{all_zero}
use Rattle.graph.proofs.are_zero.Given as goal

abbrev pub invariant-loop-i : goal.invariant-loop-i
invariant-loop-i l = all_zero (drop l.from (unpacked l.masks)) ≡ all_zero (drop l.i (unpacked l.masks))
