-- The automaton of a gap, as the code makes it.
use Rattle.std.specs.Prelude.{cond, ◌&&◌, ℕ, ◌/◌, ◌%◌, ◌^◌, ◌≤◌, ltb}
use Rattle.std.proofs.Math.Option.{Option, none}
use Rattle.model.specs.Limits.{max_gap}
use Rattle.model.specs.Gap.{task_set, in_group, releases, gap_next}
use Rattle.plan.specs.View.{label_count, entry_of}
use Rattle.gap.specs.declared.Gap.{Gap}

-- the gap is in range
pub record Fits (a : Gap) : Type 0 where
  pub shortest : 1 ≤ a.slots
  pub longest : a.slots ≤ max_gap

-- where a label leads from a state; from what is no state, and by what is no label of the plan's tasks, nowhere
abbrev pub leads : Gap → ℕ → ℕ → Option ℕ
leads a s l = cond (ltb s a.slots && ltb l (2 ^ a.tasks.count)) (gap_next a.slots s (releases (in_group (task_set a.set)) a.tasks.count l)) none

-- the table's entry of the pair k
abbrev pub pair_entry : Gap → ℕ → ℕ
pair_entry a k = entry_of (leads a (k / label_count) (k % label_count))
