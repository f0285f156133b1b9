-- What a plan gives the rules. Assumes nothing.
use mathlib.Core.Path.{◌≡◌, sym, subst}
use mathlib.Core.List.{List}
use mathlib.Core.Option.{some}
use Prim.Native.Nat.{ℕ, ◌<◌}
use native.Mathlib.Nat.{lt_of_lt_of_le}
use Rattle.model.specs.Plan as model
use Rattle.model.specs.Plan.{next_in, IsSound}
use Rattle.model.specs.Limits.{max_states}
use Rattle.theory.proofs.Sound.{sound-plan, next_in_arc}
use Rattle.theory.proofs.Schedules.{task-sound}
use Rattle.plan.specs.View.{arcs_in, StatesFit}
use Rattle.policy.specs.View.{TasksInRange}

-- a sound plan's tasks are in range
pub tasks_range : (P : model.Plan) → IsSound P → TasksInRange P.tasks
tasks_range P s = record {
  count = (sound-plan P s).tasks_fit;
  each = λ i h. let t = task-sound P (sound-plan P s) i h in record { work = t.some_work; within = t.work_fits; window = t.window_fits; some_value = t.some_value; value = t.value_fits };
}

-- and its next states are states
pub states_fit_lem : (P : model.Plan) → IsSound P → (next : List ℕ) → P.arcs ≡ arcs_in next → StatesFit next
states_fit_lem P s next e = record { to = λ from l t h. fits from l t (subst (λ as'. next_in as' from l ≡ some t) (sym e) h) }
  where
    fits : (from l t : ℕ) → next_in P.arcs from l ≡ some t → t < max_states
    fits from l t h =
        let a = next_in_arc P.arcs from l t h in
        subst (λ (n : ℕ). n < max_states) a.4 (lt_of_lt_of_le ((sound-plan P s).arc a.0 a.1).to_below (sound-plan P s).states_fit)
