-- What an edition can say, task by task.
-- Assumes nothing.
use mathlib.Core.Path.{◌≡◌, sym, ap, ◌∙◌}
use mathlib.Core.Bool.{Bool, true, not, ◌&&◌, ◌||◌}
use mathlib.Core.List.{List}
use Prim.Native.Nat.{ℕ, ◌+◌, ◌≤◌, ◌<◌}
use native.Mathlib.Omega.{arith}
use lib.Dec.{leb}
use lib.ListN.{length, get_or, drop}
use Rattle.model.specs.Edition.{Edition}
use Rattle.model.specs.Lists.{all}
use Rattle.model.specs.Plan as model
use Rattle.model.specs.Convert.{says}
use Rattle.model.proofs.Plan.{both}
use Rattle.model.proofs.Tests.{implies_test, all-each}
use Rattle.model.proofs.All.{all_from, all_done}
use Rattle.plan.specs.declared.tasks.Task.{Task}
use Rattle.plan.specs.View.{empty_task, task_view, tasks_of}
use Rattle.plan.proofs.View.{tasks-length, task-given}
use Rattle.plan_bytes.specs.Locks.{LocksFit}

-- the tasks from i on decide
abbrev pub Left : Edition → List Task → ℕ → ℕ → Type 0
Left e ts n i = all (says e) (tasks_of ts n) ≡ all (says e) (drop i (tasks_of ts n))

module _ (e : Edition) (ts : List Task) (n : ℕ) (fits : n ≤ length ts) (i : ℕ) (left : Left e ts n i) where
  pub next-task : i < n → {b : Bool} → b ≡ says e (task_view (get_or ts i empty_task)) →
      all (says e) (tasks_of ts n) ≡ (b && all (says e) (drop (i + 1) (tasks_of ts n)))
  next-task h {b} t =
      left ∙ all_from (says e) (tasks_of ts n) (task_view empty_task) i (omega (arith, h, tasks-length ts n fits))
      ∙ ap (λ (x : Bool). x && all (says e) (drop (i + 1) (tasks_of ts n))) (ap (says e) (sym (task-given ts n i h)) ∙ sym t)

  pub no_task-left : n ≤ i → true ≡ all (says e) (tasks_of ts n)
  no_task-left h = sym (left ∙ all_done (says e) (tasks_of ts n) (task_view empty_task) i (omega (arith, h, tasks-length ts n fits)))

-- what an edition can say has a lock only where it has locks
pub locks_said : (e : Edition) (ts : List model.Task) → all (says e) ts ≡ true → LocksFit e ts
locks_said e ts h t m =
    let said = both (leb t.window e.window && leb t.value e.value) (not t.locked || e.locks) ((all-each (says e) ts).0 h t m) in
    (implies_test t.locked e.locks).0 said.1
