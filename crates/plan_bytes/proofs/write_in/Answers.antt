-- `plan_bytes::write_in` meets its contract: the pieces one after another are the plan's bytes.
-- Assumes nothing.
use mathlib.Core.Path.{ap, ◌∙◌}
use mathlib.Core.Bool.{cond}
use Prim.Native.Nat.{ℕ, ◌+◌, ◌*◌, ◌≤◌}
use native.Mathlib.Nat.{zero-add, mul-le-mul_left}
use native.Mathlib.Omega.{arith}
use lib.ListN.{length}
use Rattle.model.specs.Edition.{Edition, task_width, plan_room_in}
use Rattle.model.specs.Limits.{max_tasks}
use Rattle.model.specs.PlanBytes.{lock_bytes}
use Rattle.model.proofs.Plan.{locks-few}
use Rattle.node.specs.Edition.{edition_of}
use Rattle.plan.specs.View.{plan_of, pair_count}
use Rattle.plan.proofs.View.{tasks-size}
use Rattle.words.proofs.Put.{put_byte, put_then}
use Rattle.plan_bytes.specs.Sizes.{arc_size}
use Rattle.plan_bytes.specs.Locks.{LocksFit}
use Rattle.plan.specs.declared.tasks.Plan.{Plan}
use mathlib.Core.List.{List}
use Rattle.plan_bytes.proofs.Pieces.{plan_pieces}
use Rattle.plan_bytes.proofs.write_in.Goals as goal

most : (w n : ℕ) → n ≤ max_tasks → w * n ≤ max_tasks * w
most w n h = omega (arith, mul-le-mul_left w h)

-- the tasks and the locks leave room for the rest
room : (e : Edition) (p : Plan) (out : List ℕ) → LocksFit e (plan_of p).tasks → plan_room_in e ≤ length out →
    task_width e * p.tasks.count + length (lock_bytes (plan_of p).tasks 1) + 4 + arc_size * pair_count + 1 ≤ length out
room e p out locks fits =
    let each : ℕ = cond e.locks 2 0 in
    omega (
      arith,
      fits,
      most (task_width e) p.tasks.count p.tasks.fits,
      locks-few e (plan_of p).tasks 1 locks,
      ap (λ (n : ℕ). each * n) (tasks-size p.tasks),
      most each p.tasks.count p.tasks.fits,
    )

pub write_tasks-head-requires : goal.write_tasks-head-requires
write_tasks-head-requires c =
    let a = c.args in
    let r = c.requires in
    (omega (arith, room (edition_of a.edition) a.plan a.out.now r.1 r.2), r.0)

pub write_locks-locks-requires : goal.write_locks-locks-requires
write_locks-locks-requires c =
    let a = c.args in
    let r = c.requires in
    omega (arith, room (edition_of a.edition) a.plan a.out.now r.1 r.2)

pub write_four-arcs-requires : goal.write_four-arcs-requires
write_four-arcs-requires c =
    let a = c.args in
    let r = c.requires in
    omega (arith, room (edition_of a.edition) a.plan a.out.now r.1 r.2)

pub write_arcs-end-requires : goal.write_arcs-end-requires
write_arcs-end-requires c =
    let a = c.args in
    let r = c.requires in
    omega (arith, room (edition_of a.edition) a.plan a.out.now r.1 r.2)

pub overflow_add-size : goal.overflow_add-size
overflow_add-size c =
    let a = c.args in
    let r = c.requires in
    omega (arith, room (edition_of a.edition) a.plan a.out.now r.1 r.2)

pub bounds-out-end : goal.bounds-out-end
bounds-out-end c =
    let a = c.args in
    let r = c.requires in
    omega (arith, room (edition_of a.edition) a.plan a.out.now r.1 r.2)

pub returns : goal.returns
returns c =
    let a = c.args in
    let r = c.requires in
    let free = room (edition_of a.edition) a.plan a.out.now r.1 r.2 in
    let head = put_then c.write_tasks-head.ensures.0 c.write_locks-locks.ensures (omega (arith, free)) in
    let mid = put_then head c.write_four-arcs.ensures (omega (arith, free)) in
    let arcs = put_then mid c.write_arcs-end.ensures.0 (omega (arith, free)) in
    let end = put_byte c.write_arcs-end.new.out c.write_arcs-end.result 0x05 (omega (arith, free)) in
    let whole = rw (plan_pieces (edition_of a.edition) (plan_of a.plan)) at (put_then arcs end (omega (arith, free))) in
    record { value = whole.next ∙ zero-add _; out_after = whole.bytes }
