-- `graph::mask_at` meets its contract: a shift by sixteen bits for each mask behind it. Assumes nothing.
use mathlib.Core.Path.{◌≡◌, sym, ap, ◌∙◌}
use Prim.Native.Nat.{ℕ, suc, ◌-◌, ◌/◌, ◌%◌, ◌^◌}
use native.Mathlib.Omega.{arith}
use Rattle.model.specs.Limits.{max_tasks}
use Rattle.words.specs.Packed.{field_base}
use Rattle.words.proofs.Packed.{base_shift, get_or-fields}
use Rattle.graph.proofs.mask_at.Goals as goal

pub returns : goal.returns
returns c =
    let i = c.args.i in
    let n = c.args.masks in
    let e : max_tasks - suc i ≡ 3 - i = omega arith in
    rw (base_shift (3 - i)) (sym (get_or-fields max_tasks n i c.requires ∙ ap (λ (k : ℕ). n / field_base ^ k % field_base) e))
