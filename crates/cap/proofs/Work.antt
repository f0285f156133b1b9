-- The work of a label, task by task.
-- Assumes nothing.
use mathlib.Core.Path.{◌≡◌, refl, sym, ap, ◌∙◌}
use mathlib.Core.Bool.{Bool, true, false, cond}
use mathlib.Core.List.{List, [], ◌∷◌}
use Prim.Native.Nat.{ℕ, zero, suc, ◌+◌, ◌/◌, ◌%◌, ◌≤◌}
use native.Mathlib.Nat.{zero-add}
use native.Mathlib.Omega.{arith}
use lib.Dec.{eqb}
use lib.ListN.{length, get_or}
use Rattle.model.specs.Lists.{sum_of, sum, bit, cons_if}
use Rattle.model.specs.Plan.{Task}
use Rattle.model.specs.Slot.{Job, no_task, new_jobs}
use Rattle.theory.proofs.Bits.{bit-zero, bit_half}
use Rattle.theory.proofs.Sums.{sum_head, sum_same, sum-zero}
use Rattle.policy.specs.View.{new_work}

no_work : (b : Bool) → ◌≡◌ {A = ℕ} (cond b 0 0) 0
no_work true = refl
no_work false = refl

-- a job that joins or not, before others
with_first : (b : Bool) (j : Job) (js : List Job) → sum_of (λ k. k.work) (cons_if b j js) ≡ cond b j.work 0 + sum_of (λ k. k.work) js
with_first true j js = refl
with_first false j js = sym (zero-add (sum_of (λ k. k.work) js))

-- the jobs that join by a label, where the tasks are numbered from i and are at most m
pub work_by_task : (ts : List Task) (l i m : ℕ) → length ts ≤ m → sum_of (λ j. j.work) (new_jobs ts l i) ≡ sum (new_work ts l) m
work_by_task [] l i m h = sym (sum-zero (new_work [] l) m (λ k _. no_work (bit l k)))
work_by_task (t ∷ ts) l i zero h = absurd (omega arith)
work_by_task (t ∷ ts) l i (suc m) h =
    let later : sum_of (λ j. j.work) (new_jobs ts (l / 2) (suc i)) ≡ sum (λ k. new_work (t ∷ ts) l (suc k)) m =
    work_by_task ts (l / 2) (suc i) m (omega arith)
    ∙ sum_same (new_work ts (l / 2)) (λ k. new_work (t ∷ ts) l (suc k)) m (λ k _. ap (λ (b : Bool). cond b (get_or ts k no_task).work 0) (bit_half l k)) in
    with_first (eqb (l % 2) 1) (record { task = i; work = t.work; left = t.window }) (new_jobs ts (l / 2) (suc i))
    ∙ (λ x. cond (sym (bit-zero l) x) t.work 0 + later x)
    ∙ sym (sum_head (new_work (t ∷ ts) l) m)
