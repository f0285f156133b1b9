-- `graph::choice` meets its contract: so far the masks of the first i tasks are theirs.
use mathlib.Core.Path.{◌≡◌}
use Prim.Native.Nat.{◌*◌, ◌≤◌, ◌<◌}
use Rattle.model.specs.Limits.{max_value}
use Rattle.model.specs.Masks.{mask_count}
use Rattle.words.specs.Packed.{unpacked}
use Rattle.policy.specs.View.{tasks_in}
use Rattle.graph.specs.Choice.{choice_of, next_choice}
use Rattle.graph.proofs.choice.Given as goal

abbrev pub invariant-loop-i : goal.invariant-loop-i
invariant-loop-i l = record {
  led : next_choice (tasks_in l.machine.rules) l.label l.i l.chosen (unpacked l.masks) ≡ choice_of (tasks_in l.machine.rules) l.label l.taken (unpacked l.masks);
  pattern : l.chosen.pattern < mask_count;
  gain : l.chosen.gain ≤ l.i * max_value;
}
