-- What the register block stands for.
use Rattle.std.specs.Prelude.{◌<◌}
use Rattle.model.specs.Controller as model
use Rattle.model.specs.Limits.{max_states}
use Rattle.policy.specs.View.{Tasks, cell_count, jobs_of, tasks_in, Cells}
use Rattle.policy.specs.declared.Rules.{Rules}
use Rattle.controller.specs.declared.part.Block.{Block}

-- the block that the struct stands for, where the policy has these tasks
abbrev pub block_of : Tasks → Block → model.Block
block_of ts b = record {
  label = b.label;
  status = b.status;
  mask = b.mask;
  ran = b.ran;
  gain = b.gain;
  jobs = jobs_of ts b.cells;
  state = b.state;
}

-- a block from which a slot can be run by these rules
pub record Ready (r : Rules) (b : Block) : Type 0 where
  pub cells : Cells (tasks_in r) cell_count b.cells
  pub state : b.state < max_states
