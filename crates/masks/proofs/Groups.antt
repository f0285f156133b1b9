-- The groups of masks, and where they stand in the table.
-- Assumes nothing.
use mathlib.Core.Path.{◌≡◌, refl, sym, ◌∙◌, ap}
use mathlib.Core.Logic.{◌↔◌}
use mathlib.Core.List.Memᴰ
use mathlib.Core.List.{List, ◌++◌, append-nil, Memᴰ}
use Prim.Native.Nat.{ℕ, zero, suc, ◌+◌, ◌-◌, ◌/◌, ◌^◌, ◌<◌, ◌≤◌}
use native.Mathlib.Nat.{zero-add, add-sub_of_le}
use native.Mathlib.Numerals.{add-one}
use native.Mathlib.Omega.{arith}
use lib.Dec.{eqb, ltb}
use lib.ListN.{length, get_or, take, drop, length-append, get_or-append}
use lib.Pow.{pow_mono, suc_ones}
use lib.Seq.{drop-append_seam, take-append-le, get_or-drop}
use borrow.Author.Tests.{eqb-true, eq-eqb, ne_eqb}
use Rattle.model.specs.Limits.{max_window}
use Rattle.model.specs.Lists.{keep, flat_map, up_from, ones}
use Rattle.model.specs.Masks.{mask_count, group, groups_below, mask_table, group_start}
use Rattle.model.proofs.Lists.{flat_map-append, up_from-append, keep-below-from-one, length-keep-le, mem-of-keep, mem-keep, mem-of-up_from, mem-up_from, mem-get_or, place, Rising, rising-up_from, rising-keep, rising-at, rising_prefix}
use Rattle.model.proofs.Runs.{ones-zero}

-- n bits have n ones at most
pub ones-le : (n m : ℕ) → ones n m ≤ n
ones-le zero m = omega arith
ones-le (suc n) m = omega (arith, ones-le n (m / 2))

-- a number is in the group of c ones just if it is a mask with c ones
pub mem-group : (c m : ℕ) → Memᴰ m (group c) ↔ ((m < mask_count) × (ones max_window m ≡ c))
unfolding group
mem-group c m = (
  λ h. let r = mem-of-keep (λ k. eqb (ones max_window k) c) (up_from 0 mask_count) h in
      (omega (arith, mem-of-up_from 0 mask_count r.0), eqb-true (ones max_window m) c r.1),
  λ h. mem-keep (λ k. eqb (ones max_window k) c) (mem-up_from 0 mask_count (omega arith) (omega arith)) (eq-eqb (ones max_window m) c h.1),
)

pub rising-group : (c : ℕ) → Rising 0 (group c)
unfolding group
rising-group c = rising-keep (λ m. eqb (ones max_window m) c) 0 (up_from 0 mask_count) (rising-up_from 0 mask_count)

-- the masks of c ones below bit D
abbrev pub group_below : ℕ → ℕ → List ℕ
group_below D c = keep (λ m. ltb m (2 ^ D)) (group c)

-- n groups more, and one
groups_below-add : (c n : ℕ) → groups_below (c + n) ≡ groups_below c ++ flat_map group (up_from c n)
unfolding groups_below
groups_below-add c n =
    ap (flat_map group) (up_from-append 0 c n ∙ ap (λ k. up_from 0 c ++ up_from k n) (zero-add c))
    ∙ flat_map-append group (up_from 0 c) (up_from c n)

pub groups_below-suc : (c : ℕ) → groups_below (suc c) ≡ groups_below c ++ group c
groups_below-suc c =
    ap groups_below (sym (add-one c)) ∙ groups_below-add c 1 ∙ ap (λ l. groups_below c ++ l) (append-nil (group c))

pub group_start-suc : (c : ℕ) → group_start (suc c) ≡ group_start c + length (group c)
unfolding group_start
group_start-suc c = ap length (groups_below-suc c) ∙ length-append (groups_below c) (group c)

-- the groups after that of c ones
abbrev groups_after : ℕ → List ℕ
groups_after c = flat_map group (up_from (suc c) (max_window - c))

table_split : (c : ℕ) → c ≤ max_window → mask_table ≡ groups_below c ++ (group c ++ groups_after c)
unfolding mask_table
table_split c h = ap groups_below split ∙ groups_below-add c (suc (max_window - c))
  where
    split : suc max_window ≡ c + suc (max_window - c)
    split = omega arith

drop_groups : (c : ℕ) → c ≤ max_window → drop (group_start c) mask_table ≡ group c ++ groups_after c
unfolding group_start
drop_groups c h = ap (drop (group_start c)) (table_split c h) ∙ drop-append_seam (groups_below c) (group c ++ groups_after c)

pub get_or-group : (c k : ℕ) → c ≤ max_window → k < length (group c) → get_or mask_table (group_start c + k) 0 ≡ get_or (group c) k 0
get_or-group c k h h' =
    sym (get_or-drop (group_start c) mask_table k 0) ∙ ap (λ l. get_or l k 0) (drop_groups c h)
    ∙ get_or-append (group c) (groups_after c) 0 k h'

pub length-table : length mask_table ≡ mask_count
unfolding mask_table groups_below group
length-table = refl

pub group_start-le : (c : ℕ) → c ≤ max_window → group_start (suc c) ≤ mask_count
unfolding group_start
group_start-le c h =
    omega (
      arith,
      length-table,
      group_start-suc c,
      ap length (table_split c h),
      length-append (groups_below c) (group c ++ groups_after c),
      length-append (group c) (groups_after c),
    )

-- the place of an entry within its group
module _ (c : ℕ) (h : c ≤ max_window) where
  offset : (i : ℕ) → group_start c ≤ i → i < group_start (suc c) → i - group_start c < length (group c)
  offset i h₁ h₂ = omega (arith, group_start-suc c)

  get_or_offset : (i : ℕ) → group_start c ≤ i → i < group_start (suc c) → get_or mask_table i 0 ≡ get_or (group c) (i - group_start c) 0
  get_or_offset i h₁ h₂ =
      ap (λ k. get_or mask_table k 0) (sym (add-sub_of_le h₁)) ∙ get_or-group c (i - group_start c) h (offset i h₁ h₂)

  -- an entry between the bounds is in the group
  pub mem-group-at : (i : ℕ) → group_start c ≤ i → i < group_start (suc c) → Memᴰ (get_or mask_table i 0) (group c)
  mem-group-at i h₁ h₂ =
      Memᴰ.cast (get_or_offset i h₁ h₂) (mem-get_or (group c) (i - group_start c) 0 (offset i h₁ h₂))

  pub ones-at : (i : ℕ) → group_start c ≤ i → i < group_start (suc c) → ones max_window (get_or mask_table i 0) ≡ c
  ones-at i h₁ h₂ = ((mem-group c (get_or mask_table i 0)).0 (mem-group-at i h₁ h₂)).1

  -- within a group the masks strictly rise
  pub rising_in_group : (i j : ℕ) → group_start c ≤ i → i < j → j < group_start (suc c) → get_or mask_table i 0 < get_or mask_table j 0
  rising_in_group i j h₁ h₂ h₃ =
      rw (get_or_offset i h₁ (omega arith), get_or_offset j (omega arith) h₃)
      (rising-at 0 (group c) (rising-group c) (i - group_start c) (j - group_start c) (omega arith) (offset j (omega arith) h₃))

  -- the masks of the group below bit D are its first ones
  pub group-below : (D : ℕ) → take (length (group_below D c)) (drop (group_start c) mask_table) ≡ group_below D c
  group-below D =
      ap (take (length (group_below D c))) (drop_groups c h)
      ∙ take-append-le (length (group_below D c)) (group c) (groups_after c) (length-keep-le (λ m. ltb m (2 ^ D)) (group c))
      ∙ rising_prefix (2 ^ D) 0 (group c) (rising-group c)

  pub group-below-le : (D : ℕ) → group_start c + length (group_below D c) ≤ group_start (suc c)
  group-below-le D = omega (arith, group_start-suc c, length-keep-le (λ m. ltb m (2 ^ D)) (group c))

-- every mask is in the table, between the bounds of its group
pub in_table : (m : ℕ) → m < mask_count
    → (i : ℕ) × (group_start (ones max_window m) ≤ i) × (i < group_start (suc (ones max_window m))) × (get_or mask_table i 0 ≡ m)
in_table m h =
    let c = ones max_window m in
    let r = place 0 ((mem-group c m).1 (h, refl)) in
    (group_start c + r.0, omega arith, omega (arith, group_start-suc c, r.1), get_or-group c r.0 (ones-le max_window m) r.1 ∙ r.2)

-- the masks of c ones below bit D, as they are listed from 1 up
pub group-below-from-one : (c D : ℕ) → 1 ≤ c → D ≤ max_window
    → keep (λ m. eqb (ones max_window m) c) (up_from 1 (2 ^ D - 1)) ≡ group_below D c
unfolding group
group-below-from-one c D h h' =
    keep-below-from-one (λ m. eqb (ones max_window m) c) (2 ^ D - 1) mask_count (omega (arith, suc_ones D, pow_mono h'))
    (ne_eqb (ones max_window 0) c (λ e. omega (arith, ones-zero max_window)))
    ∙ ap (λ b. keep (λ m. ltb m b) (group c)) (suc_ones D)
