-- The part of a plan.
-- Assumes nothing.
use Rattle.std.proofs.Common.{◌≡◌, [], sym, ap, ◌∙◌, subst, arith}
use Rattle.plan.specs.View.{plan_of, arcs_in}
use Rattle.plan.specs.declared.tasks.Plan.{Plan}
use Rattle.policy.specs.View.{Tasks, cell_count, tasks_in}
use Rattle.policy.specs.declared.Rules.{Rules}
use Rattle.policy.proofs.Cells.{empty-jobs, empty-cells}
use Rattle.machine.specs.Machine.{MachineOf}
use Rattle.model.specs.Controller as model
use Rattle.controller.specs.Block.{Ready, block_of}
use Rattle.controller.specs.View.{fresh_block, After}
use Rattle.controller.specs.declared.part.Block.{Block}
use Rattle.controller.specs.declared.part.Controller.{Controller}
use Rattle.controller.proofs.After.{after-writes}

-- a slot can be run from a fresh block
pub fresh-ready : (r : Rules) (b : Block) → b ≡ fresh_block → Ready r b
fresh-ready r b e = subst (λ (k : Block). Ready r k) (sym e) (record { cells = empty-cells (tasks_in r) cell_count; state = omega arith })

fresh-view : (ts : Tasks) (b : Block) → b ≡ fresh_block → block_of ts b ≡ model.fresh
fresh-view ts b e =
    ap (block_of ts) e ∙ (λ i. record { label = 0; status = 0; mask = 0; ran = 0; gain = 0; jobs = empty-jobs ts cell_count i; state = 0 })

-- a plan's machine and a fresh block
pub fresh-part : (plan : Plan) (c : Controller) → MachineOf plan c.machine → c.block ≡ fresh_block → After (plan_of plan) [] c
fresh-part plan c of e =
    after-writes (plan_of plan) [] c
    (record { for = record { tasks = sym of.rules.tasks; policy = sym of.rules.policy }; arcs = ap arcs_in (sym of.next) })
    (fresh-view (tasks_in c.machine.rules) c.block e)
