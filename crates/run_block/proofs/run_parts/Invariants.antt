-- `run_block::run_parts` meets its contract: the parts so far are full, so with the next one they are the writes from the first on.
-- Assumes nothing.
use mathlib.Core.Path.{◌≡◌}
use mathlib.Core.List.{List}
use Prim.Native.Nat.{ℕ, ◌%◌}
use lib.ListN.{length}
use Rattle.policy.specs.declared.Rules.{Rules}
use Rattle.controller.specs.declared.part.Block.{Block}
use Rattle.block_text.proofs.Parts.{RunsTo}
use Rattle.run_block.proofs.run_parts.Given as goal

-- the block after full parts
pub record Through (r : Rules) (next : List ℕ) (b after : Block) : Type 0 where
  pub writes : List ℕ
  pub even : length writes % 2 ≡ 0
  pub runs : RunsTo r next b writes after

abbrev pub invariant-loop : goal.invariant-loop
invariant-loop l = Through l.machine.rules l.machine.next l.initial.block l.block
