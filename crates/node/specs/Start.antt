-- The start node as a struct.
use Rattle.std.specs.Prelude.{◌*◌, ◌-◌, replicate}
use Rattle.model.specs.Limits.{max_tasks, max_window}
use Rattle.node.specs.declared.Node.{Node}

-- "The start node holds no jobs and no taken slot, in state 0."
abbrev pub start_node : Node
start_node = record { cells = replicate (max_tasks * (max_window - 1)) 0; taken = 0; state = 0 }
