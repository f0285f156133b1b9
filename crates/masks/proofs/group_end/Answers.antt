-- `masks::group_end` meets its contract: the constant lists the counts, by one test that antt computes.
-- Assumes nothing.
use mathlib.Core.Path.{◌≡◌, sym, ap, ap₂, ◌∙◌}
use mathlib.Core.List.{List, [], map}
use Prim.Native.Nat.{ℕ, suc, ◌+◌, ◌^◌, ◌≤◌}
use native.Mathlib.Omega.{arith}
use lib.Dec.{eqb, ltb}
use lib.ListN.{length, get_or}
use lib.Pow.{pow_mono}
use Rattle.model.specs.Limits.{max_window}
use Rattle.model.specs.Lists.{keep, up_from, ones}
use Rattle.model.specs.Masks.{mask_count, group}
use Rattle.model.proofs.Lists.{keep_comm, keep-below-up_from, get_or-table}
use Rattle.masks.proofs.Groups.{group_below, group_start-le, group-below-le}
use Rattle.masks.proofs.group_end.Goals as goal
use Rattle.masks.proofs.group_end.Goals.{After-from}

-- how many masks of c ones lie below bit D
count : ℕ → ℕ → ℕ
count c D = length (keep (λ m. eqb (ones max_window m) c) (up_from 0 (2 ^ D)))

count-is : (c D : ℕ) → D ≤ max_window → count c D ≡ length (group_below D c)
unfolding count group
count-is c D h =
    ap (λ l. length (keep (λ m. eqb (ones max_window m) c) l)) (sym (keep-below-up_from (2 ^ D) mask_count (pow_mono h)))
    ∙ ap length (keep_comm (λ m. eqb (ones max_window m) c) (λ m. ltb m (2 ^ D)) (up_from 0 mask_count))

row : ℕ → List ℕ
row c = map (count c) (up_from 0 (suc max_window))

counted : (c D : ℕ) → c ≤ max_window → D ≤ max_window → get_or (get_or (map row (up_from 0 (suc max_window))) c []) D 0 ≡ length (group_below D c)
unfolding row
counted c D h k =
    ap (λ l. get_or l D 0) (get_or-table row (suc max_window) c [] (omega arith))
    ∙ get_or-table (count c) (suc max_window) D 0 (omega arith)
    ∙ count-is c D k

-- the constant's entry is the count
entry : (c : After-from) → c.from.result ≡ length (group_below c.args.window c.args.c)
unfolding row count
entry c = c.from.ensures ∙ counted c.args.c c.args.window c.requires.0 c.requires.1

pub overflow_add-result : goal.overflow_add-result
overflow_add-result c =
    let i = c.args.c in
    omega (arith, entry c, c.group_start.ensures, group-below-le i c.requires.0 c.args.window, group_start-le i c.requires.0)

pub returns : goal.returns
returns c = ap₂ (λ (a b : ℕ). a + b) c.group_start.ensures (entry c)
