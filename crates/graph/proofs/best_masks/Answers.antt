-- `graph::best_masks` meets its contract: the shift loses no bit. Assumes nothing.
use mathlib.Core.Path.{◌≡◌, ap₂}
use Prim.Native.Nat.{ℕ, ◌+◌, ◌-◌, ◌*◌, ◌^◌, ◌<◌}
use native.Mathlib.Nat.{mod-eq_of_lt}
use Rattle.model.specs.Limits.{max_tasks}
use Rattle.words.specs.Packed.{field_base}
use Rattle.words.proofs.Packed.{base_shift, shifted_lt}
use Rattle.graph.specs.Outcomes.{word_base, masks_in}
use Rattle.graph.proofs.best_masks.Goals as goal

pub returns : goal.returns
returns c =
    let tasks = c.args.tasks in
    let x = masks_in c.args.notes.now in
    let is : c.from.result * word_base + c.from-2.result ≡ x = ap₂ (λ (a b : ℕ). a * word_base + b) c.from.ensures c.from-2.ensures in
    let low : x * field_base ^ (max_tasks - tasks) < field_base ^ max_tasks = shifted_lt x tasks max_tasks c.requires.2 c.requires.1 in
    rw (is, base_shift (max_tasks - tasks)) (mod-eq_of_lt low)
