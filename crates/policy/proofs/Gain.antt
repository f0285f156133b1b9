-- What a slot gains is 0 or a task's value.
-- Assumes nothing.
use mathlib.Core.Path.{◌≡◌, refl, ap}
use mathlib.Core.Bool.{Bool, true, false, cond}
use mathlib.Core.List.{List}
use mathlib.Core.Logic.{⊎_elim, ◌⊎◌, inl, inr}
use mathlib.Core.Option.{Option, none, some}
use Prim.Native.Nat.{ℕ, ◌-◌, ◌≤◌, ◌<◌}
use native.Mathlib.Omega.{arith}
use borrow.Author.Tests.{ltb-true, ltb-false}
use lib.Dec.{eqb, ltb}
use lib.ListN.{length, get_or, get_or-eq_default}
use Rattle.model.specs.Plan.{Task, Plan}
use Rattle.model.specs.Slot.{Job, no_task, key, first, run_first, ready, slot}

gain-value : (P : Plan) (js : List Job) (l : ℕ) → ((slot P js l).gain ≡ 0) ⊎ ((i : ℕ) × (i < length P.tasks) × ((slot P js l).gain ≡ (get_or P.tasks i no_task).value))
unfolding slot
gain-value P js l = go (ready P js l) (first (key P.tasks P.policy) (ready P js l))
  where
    task : (n : ℕ) (b : Bool) → ltb n (length P.tasks) ≡ b
        → ((get_or P.tasks n no_task).value ≡ 0) ⊎ ((i : ℕ) × (i < length P.tasks) × ((get_or P.tasks n no_task).value ≡ (get_or P.tasks i no_task).value))
    task n true e = inr (n, ltb-true n (length P.tasks) e, refl)
    task n false e = inl (ap (λ (t : Task). t.value) (get_or-eq_default P.tasks no_task (ltb-false n (length P.tasks) e)))

    gain : (b : Bool) (n : ℕ)
        → (cond b (get_or P.tasks n no_task).value 0 ≡ 0) ⊎ ((i : ℕ) × (i < length P.tasks) × (cond b (get_or P.tasks n no_task).value 0 ≡ (get_or P.tasks i no_task).value))
    gain true n = task n (ltb n (length P.tasks)) refl
    gain false n = inl refl

    go : (rs : List Job) (o : Option Job)
        → ((run_first P.tasks rs o).gain ≡ 0) ⊎ ((i : ℕ) × (i < length P.tasks) × ((run_first P.tasks rs o).gain ≡ (get_or P.tasks i no_task).value))
    go rs none = inl refl
    go rs (some x) = gain (eqb x.work 1) (x.task - 1)

-- so it is at most the largest value
pub gain-most : (P : Plan) (js : List Job) (l most : ℕ) → ((i : ℕ) → i < length P.tasks → (get_or P.tasks i no_task).value ≤ most) → (slot P js l).gain ≤ most
gain-most P js l most h =
    ⊎_elim (λ e. omega arith) (λ t. omega (arith, t.2, h t.0 t.1)) (gain-value P js l)
