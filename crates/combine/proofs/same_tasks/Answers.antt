-- `combine::same_tasks` meets its contract: `==` compares tasks as the definition does.
-- Assumes nothing.
use mathlib.Core.Path.{◌≡◌, refl, ap₂, ◌∙◌}
use mathlib.Core.Bool.{Bool, ◌&&◌}
use mathlib.Core.List.{List, [], ◌∷◌, map}
use lib.Pointwise.{pointwise}
use borrow.Author.Rules.{rules}
use Rattle.model.specs.Lists.{same_by}
use Rattle.model.specs.Combine.{same_task}
use Rattle.plan.specs.declared.tasks.Task.{Task}
use Rattle.plan.specs.View.{task_view}
use Rattle.plan.specs.contracts.tasks.TaskPartialEq.TheImpl.{eq-value}
use Rattle.combine.proofs.same_tasks.Goals as goal

same_one : (a b : Task) → eq-value.it a b ≡ same_task (task_view a) (task_view b)
same_one a b = search rules

alike : (it : Task → Task → Bool) → ((a b : Task) → it a b ≡ same_task (task_view a) (task_view b)) → (xs ys : List Task) →
    pointwise it xs ys ≡ same_by same_task (map task_view xs) (map task_view ys)
alike it h [] [] = refl
alike it h [] (y ∷ ys) = refl
alike it h (x ∷ xs) [] = refl
alike it h (x ∷ xs) (y ∷ ys) = ap₂ ◌&&◌ (h x y) (alike it h xs ys)

pub returns : goal.returns
returns c = c.eq.ensures ∙ alike _ same_one c.as_slice.result.now c.as_slice-2.result.now ∙ ap₂ (same_by same_task) c.as_slice.ensures c.as_slice-2.ensures
