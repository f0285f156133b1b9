-- `plan_bytes::write_tasks` meets its contract: the tasks before this one are written.
-- Assumes nothing.
use mathlib.Core.Path.{◌≡◌, ap, ◌∙◌}
use Prim.Native.Nat.{ℕ, ◌+◌, ◌*◌, ◌≤◌, ◌<◌}
use native.Mathlib.Nat.{mul-suc, mul-le-mul_left}
use native.Mathlib.Numerals.{add-one}
use native.Mathlib.Omega.{arith}
use lib.ListN.{length, get_or}
use Rattle.plan.specs.View.{empty_task, task_view, tasks_of}
use Rattle.model.specs.Edition.{task_width}
use Rattle.model.specs.Lists.{flat_map}
use Rattle.model.specs.PlanBytes.{task_bytes}
use Rattle.node.specs.Edition.{edition_of}
use Rattle.words.proofs.Put.{put-none, put_as}
use Rattle.plan_bytes.proofs.Pieces.{task-length, shown, shown-count, tasks-more}
use Rattle.plan_bytes.proofs.write_tasks.Goals as goal

-- one more of so many pieces
room : (w i n : ℕ) → i < n → w * i + w ≤ w * n
room w i n h = omega (arith, mul-suc w i, mul-le-mul_left w h)

pub loop-task-init : goal.loop-task-init
loop-task-init c = (omega arith, put-none _ 0)

pub write_task-end-requires : goal.write_task-end-requires
write_task-end-requires c =
    let tasks = c.args.tasks.now in
    let count = shown-count _ tasks c.as_slice-task-items.ensures in
    let there : c.loop-task.task-index < tasks.count = omega (arith, count, c.loop-task-test.true) in
    (c.requires.1, omega (arith, c.requires.0, c.loop-task.invariant.0, c.loop-task.auto.out, room (task_width (edition_of c.args.edition)) c.loop-task.task-index tasks.count there))

pub loop-task-preserved : goal.loop-task-preserved
loop-task-preserved c =
    let e = edition_of c.args.edition in
    let ts = c.as_slice-task-items.result.now in
    let i = c.loop-task.task-index in
    let more = c.write_task-end.ensures in
    let count = shown-count ts c.args.tasks.now c.as_slice-task-items.ensures in
    let fits : c.write_task-end.result ≤ task_width e * (i + 1) =
    omega (arith, c.loop-task.invariant.0, more.next, task-length e (task_view (get_or ts i empty_task)), mul-suc (task_width e) i, ap (λ (k : ℕ). task_width e * k) (add-one i)) in
    let below : task_width e * (i + 1) ≤ task_width e * c.args.tasks.now.count = mul-le-mul_left (task_width e) (omega (arith, count, c.loop-task-test.true)) in
    (fits, tasks-more e ts i c.loop-task-test.true c.loop-task.invariant.1 more (omega (arith, fits, below, c.requires.0)))

pub returns : goal.returns
returns c =
    let e = edition_of c.args.edition in
    let ts = c.as_slice-task-items.result.now in
    let all : c.loop-task.task-index ≡ length ts = omega (arith, c.loop-task-test.false, c.loop-task.auto.task-index-end) in
    let count = shown-count ts c.args.tasks.now c.as_slice-task-items.ensures in (
      put_as (ap (λ (k : ℕ). flat_map (task_bytes e) (tasks_of ts k)) all ∙ ap (flat_map (task_bytes e)) (shown ts _ c.as_slice-task-items.ensures)) c.loop-task.invariant.1,
      omega (arith, c.loop-task.invariant.0, ap (λ (k : ℕ). task_width e * k) (all ∙ count)),
    )
