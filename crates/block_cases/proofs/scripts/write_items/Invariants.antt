-- Each turn makes the writes of one item more.
use Rattle.std.proofs.Common.{List}
use Rattle.model.specs.Controller.{Write}
use Rattle.block_cases.specs.Script.{Moved}
use Rattle.block_cases.proofs.scripts.write_items.Given as goal

abbrev pub invariant-loop : goal.invariant-loop
invariant-loop l = (ws : List Write) × Moved l.initial.controller ws l.controller
