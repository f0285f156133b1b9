-- `plan_bytes::write_locks` meets its contract: the locks of the tasks before i are written.
-- Assumes nothing.
use mathlib.Core.Path.{◌≡◌, ap, ◌∙◌}
use mathlib.Core.List.{List}
use Prim.Native.Nat.{ℕ}
use native.Mathlib.Omega.{arith}
use lib.ListN.{length}
use Rattle.model.specs.Plan.{Task}
use Rattle.model.specs.PlanBytes.{lock_bytes}
use Rattle.plan.specs.View.{tasks_of}
use Rattle.words.proofs.Put.{put-none, put_as}
use Rattle.plan_bytes.proofs.Pieces.{lock-fits, locks-more, shown, shown-count}
use Rattle.plan_bytes.proofs.write_locks.Goals as goal

pub loop-i-init : goal.loop-i-init
loop-i-init c = put-none _ _

pub write_lock-end-requires : goal.write_lock-end-requires
write_lock-end-requires c =
    let ts = c.as_slice-task-items.result.now in
    let count = shown-count ts c.args.tasks.now c.as_slice-task-items.ensures in
    let whole = ap (λ (us : List Task). length (lock_bytes us 1)) (shown ts _ c.as_slice-task-items.ensures) in (
      omega (arith, count, c.loop-i-test.true, c.args.tasks.now.fits),
      omega (arith, c.requires, whole, c.loop-i.auto.out, c.loop-i.invariant.next, lock-fits ts (length ts) c.loop-i.i c.loop-i-test.true (omega arith)),
    )

pub loop-i-preserved : goal.loop-i-preserved
loop-i-preserved c =
    let ts = c.as_slice-task-items.result.now in
    let more = c.write_lock-end.ensures in
    let whole = ap (λ (us : List Task). length (lock_bytes us 1)) (shown ts _ c.as_slice-task-items.ensures) in
    let fits = lock-fits ts (length ts) c.loop-i.i c.loop-i-test.true (omega arith) in
    locks-more ts c.loop-i.i c.loop-i-test.true c.loop-i.invariant more (omega (arith, fits, whole, c.requires, more.next, c.loop-i.invariant.next))

pub returns : goal.returns
returns c =
    let ts = c.as_slice-task-items.result.now in
    let all : c.loop-i.i ≡ length ts = omega (arith, c.loop-i-test.false, c.loop-i.auto.i-end) in
    put_as (ap (λ (k : ℕ). lock_bytes (tasks_of ts k) 1) all ∙ ap (λ (us : List Task). lock_bytes us 1) (shown ts _ c.as_slice-task-items.ensures)) c.loop-i.invariant
