-- Each turn of the loop makes the item's next write.
use Rattle.controller.specs.View.{refusal_of_result}
use Rattle.block_cases.specs.Script.{first_writes, Scripted}
use Rattle.block_cases.proofs.scripts.run_item.Given as goal

abbrev pub invariant-loop-k : goal.invariant-loop-k
invariant-loop-k l = Scripted l.initial.controller (first_writes l.item l.k) l.controller (refusal_of_result l.told)
