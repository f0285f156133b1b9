-- `plan_bytes::write_lock` meets its contract: a lock, or nothing.
-- Assumes nothing.
use mathlib.Core.Path.{◌≡◌, sym, ap}
use mathlib.Core.Bool.{true}
use Prim.Native.Nat.{ℕ, ◌+◌, ◌≤◌}
use mathlib.Core.List.{List, [], ◌∷◌}
use native.Mathlib.Omega.{arith}
use borrow.Author.Tests.{not-true, not-false}
use lib.ListN.{length, set, length-set}
use Rattle.model.specs.PlanBytes.{lock_bytes}
use Rattle.plan.specs.declared.tasks.Task.{Task}
use Rattle.plan.specs.View.{task_view}
use Rattle.words.proofs.Put.{put-none, put_byte, put_then, put_as}
use Rattle.plan_bytes.proofs.Pieces.{lock-bytes}
use Rattle.plan_bytes.proofs.write_lock.Goals as goal

-- a lock is two bytes
room : (t : Task) (out : List ℕ) (at i : ℕ) → at + length (lock_bytes (task_view t ∷ []) (i + 1)) ≤ length out → t.locked ≡ true → at + 2 ≤ length out
room t out at i h e = omega (arith, h, ap length (lock-bytes (task_view t) (i + 1) e))

pub returns-then-not-t : goal.returns-then-not-t
returns-then-not-t c =
    let a = c.args in
    put_as (sym (lock-bytes (task_view a.t) (a.i + 1) (not-true _ c.if-not-t.true))) (put-none _ _)

pub bounds-out-at : goal.bounds-out-at
bounds-out-at c = let a = c.args in omega (arith, room a.t a.out.now a.at a.i c.requires.1 (not-false _ c.if-not-t.false))

pub bounds-out-after : goal.bounds-out-after
bounds-out-after c =
    let a = c.args in
    omega (arith, room a.t a.out.now a.at a.i c.requires.1 (not-false _ c.if-not-t.false), length-set a.out.now a.at 0x09)

pub returns : goal.returns
returns c =
    let a = c.args in
    let locked : a.t.locked ≡ true = not-false _ c.if-not-t.false in
    let fits : a.at + 2 ≤ length a.out.now = room a.t a.out.now a.at a.i c.requires.1 locked in
    let command = put_byte a.out.now a.at 0x09 (omega (arith, fits)) in
    let number = put_byte (set a.out.now a.at 0x09) (a.at + 1) (a.i + 1) (omega (arith, fits, length-set a.out.now a.at 0x09)) in
    put_as (sym (lock-bytes (task_view a.t) (a.i + 1) locked)) (put_then command number (omega (arith, fits)))
