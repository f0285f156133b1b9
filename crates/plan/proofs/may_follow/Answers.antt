-- `plan::may_follow` meets its contract: the arms are the definition's tests.
-- Assumes nothing.
use mathlib.Core.Path.{◌≡◌, refl, sym, ap, ◌∙◌}
use mathlib.Core.Bool.{Bool, true, false, false≢true, not, ◌&&◌}
use Rattle.std.specs.Prelude as rust
use Rattle.std.specs.Prelude.{None, Some, is_some, []}
use Prim.Native.Nat.{ℕ}
use lib.Dec.{eqb, ltb}
use lib.ListN.{length}
use Rattle.model.specs.Limits.{max_tasks}
use Rattle.model.specs.Plan.{may_follow, is_zero, any_locked}
use Rattle.plan.specs.declared.Reading.{Reading}
use Rattle.plan.specs.View.{command_number, given_in, list_of, reading_of, Within}
use Rattle.plan.proofs.View.{tasks-size, locked-any}
use Rattle.plan.proofs.may_follow.Goals as goal
use Rattle.plan.proofs.may_follow.Goals.{then-is_none, else-is_none}

no_policy : (o : rust.Option ℕ) → is_some o ≡ false → is_zero (given_in o) ≡ true
no_policy None e = refl
no_policy (Some p) e = absurd (false≢true (sym e))

twice : (b : Bool) → not (not b) ≡ b
twice true = refl
twice false = refl

-- where no policy is given and there is room, a task may follow if none is locked
task-follows : (r : Reading) → Within r → is_some r.policy ≡ false → ltb r.tasks.count max_tasks ≡ true → (c : ℕ) → c ≡ 1 → eqb r.lock 0 ≡ may_follow (reading_of r []) c
unfolding may_follow
task-follows r w p room c is =
    let k : eqb r.lock 0 ≡ (is_zero (given_in r.policy) && ltb (length (list_of r.tasks)) max_tasks && not (any_locked (list_of r.tasks))) =
    sym ((λ i. no_policy r.policy p i && (ap (λ (n : ℕ). ltb n max_tasks) (tasks-size r.tasks) ∙ room) i && not (locked-any r w i)) ∙ twice (eqb r.lock 0)) in
    simp is k

pub returns-then-r-lt-MAX_TASKS : goal.returns-then-r-lt-MAX_TASKS
returns-then-r-lt-MAX_TASKS c =
    elim c.if-is_none.branch [
      | then-is_none w ↦ task-follows _ c.requires w.if-is_none.ensures (sym w.value-is ∙ c.if-r-lt-MAX_TASKS.true) _ (ap command_number c.in-Task.is)
      | else-is_none w ↦ absurd (false≢true (sym w.if-is_none.false ∙ sym w.value-is ∙ c.if-r-lt-MAX_TASKS.true))
    ]
