-- `policy::join` meets its contract: the loop writes the new jobs behind the cells.
-- Assumes nothing.
use Rattle.std.proofs.Common.{◌≡◌, ◌+◌, ◌<◌, length, map, replicate, refl, sym, ap, ◌∙◌, length-append, arith}
use Rattle.model.specs.Bytes.{overwrite}
use Rattle.model.specs.Limits.{max_tasks}
use Rattle.model.specs.Lists.{up_from}
use Rattle.words.proofs.Memory.{overwrite-none}
use Rattle.words.proofs.Tables.{written-more}
use Rattle.plan.specs.View.{list_of}
use Rattle.policy.specs.View.{cell_count, new_work, joined_cells}
use Rattle.policy.proofs.Lists.{write-end, length-table}
use Rattle.policy.proofs.join.Goals as goal

pub loop-i-init : goal.loop-i-init
loop-i-init c = sym (overwrite-none _ cell_count)

pub loop-i-preserved : goal.loop-i-preserved
loop-i-preserved c =
    let new = new_work (list_of c.args.tasks.now) c.args.label in
    let i = c.loop-i.i in
    let room : cell_count + i < length c.widen-joined.result = omega (arith, ap length c.widen-joined.ensures, length-append c.args.cells.now (replicate max_tasks 0), c.told-cells) in
    let work = c.new_work.ensures ∙ ap (λ ts. new_work ts c.args.label i) c.as_slice-given.ensures in
    written-more new 0 c.widen-joined.result cell_count i (cell_count + i) i refl (omega arith) room work c.loop-i.invariant

pub returns : goal.returns
unfolding joined_cells
returns c =
    let new = new_work (list_of c.args.tasks.now) c.args.label in
    let end : c.loop-i.i ≡ max_tasks = omega arith in
    c.loop-i.invariant
    ∙ ap (λ n. overwrite c.widen-joined.result cell_count (map new (up_from 0 n))) end
    ∙ ap (λ wide. overwrite wide cell_count (map new (up_from 0 max_tasks))) c.widen-joined.ensures
    ∙ write-end c.args.cells.now (replicate max_tasks 0) (map new (up_from 0 max_tasks)) cell_count c.told-cells (length-table new max_tasks)
