-- `mask_text::make_table` meets its contract: the groups of fewer than c ones are listed.
-- Assumes nothing.
use mathlib.Core.Path.{◌≡◌, sym, ap, ◌∙◌}
use Prim.Native.Nat.{ℕ, suc, ◌+◌, ◌≤◌}
use native.Mathlib.Numerals.{add-one}
use native.Mathlib.Omega.{arith}
use lib.ListN.{length, replicate, length-replicate}
use Rattle.model.specs.Bytes.{overwrite}
use Rattle.model.specs.Limits.{max_window}
use Rattle.model.specs.Masks.{mask_count, group, groups_below, group_start, mask_table}
use Rattle.masks.proofs.Groups.{groups_below-suc, group_start-suc, group_start-le, length-table}
use Rattle.words.proofs.Memory.{overwrite-all}
use Rattle.words.proofs.Put.{put-none, put_then, put_as}
use Rattle.mask_text.proofs.make_table.Goals as goal

-- the next group has room
room : (c : ℕ) → c ≤ max_window → length (groups_below c) + length (group c) ≤ mask_count
unfolding group_start
room c h = omega (arith, group_start-suc c, group_start-le c h)

pub loop-c-init : goal.loop-c-init
unfolding groups_below
loop-c-init c = (length-replicate {A = ℕ} mask_count 0, put-none _ _)

pub list_group-end-requires : goal.list_group-end-requires
list_group-end-requires c =
    omega (arith, c.loop-c.invariant.0, c.loop-c.invariant.1.next, room c.loop-c.c (omega arith))

pub loop-c-preserved : goal.loop-c-preserved
loop-c-preserved c =
    let more = c.list_group-end.ensures in
    let fits = room c.loop-c.c (omega arith) in
    (c.list_group-end.auto.table ∙ c.loop-c.invariant.0, put_as (sym (groups_below-suc c.loop-c.c) ∙ ap groups_below (sym (add-one c.loop-c.c))) (put_then c.loop-c.invariant.1 more (omega (arith, fits, more.next, c.loop-c.invariant.1.next, length-replicate {A = ℕ} mask_count 0))))

pub returns : goal.returns
unfolding mask_table
returns c =
    let e : c.loop-c.c ≡ suc max_window = omega arith in
    c.loop-c.invariant.1.bytes ∙ ap (λ (k : ℕ). overwrite (replicate mask_count 0) 0 (groups_below k)) e
    ∙ overwrite-all (replicate mask_count 0) mask_table (length-table ∙ sym (length-replicate {A = ℕ} mask_count 0))
