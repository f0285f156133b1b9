-- The masks that are clear of a pattern, listed one after another.
-- Assumes nothing.
use mathlib.Core.Path.{◌≡◌, refl, sym, ap, subst, ◌∙◌}
use mathlib.Core.Bool.{Bool, true, false}
use mathlib.Core.Logic.{inl}
use mathlib.Core.List.Memᴰ
use mathlib.Core.List.{List, [], ◌∷◌, ◌++◌, map, append-nil, Memᴰ}
use Prim.Native.Nat.{ℕ, suc, ◌+◌, ◌-◌, ◌*◌, ◌^◌, ◌≤◌, ◌<◌}
use native.Mathlib.Decide.{dec_lt}
use native.Mathlib.Omega.{arith}
use lib.Dec.{lit<}
use lib.ListN.{length, get_or, set, length-set, get_or-eq_default}
use lib.Seq.{get_or-set_same}
use Rattle.model.specs.Bytes.{part}
use Rattle.model.specs.Limits.{max_window}
use Rattle.model.specs.Lists.{cons_if, keep, up_from, one}
use Rattle.model.specs.Masks.{mask_count, group, groups_below, mask_table}
use Rattle.model.proofs.Lists.{keep_append, mem-of-keep, mem-of-flat_map, mem-of-up_from, mem-get_or, place, at_each, table_more}
use Rattle.model.proofs.Tests.{one-le}
use Rattle.words.proofs.Free.{only_refl, only_trans, overwrite-only, only_wider}
use Rattle.words.proofs.Memory.{part-more, overwrite-one, overwrite_frame}
use Rattle.words.proofs.Words.{part-below}
use Rattle.masks.specs.Clear.{clear_of, clear_in, clear_runs, Lists}
use Rattle.masks.proofs.Groups.{length-table, mem-group}

-- ---- one mask more

module _ (taken : ℕ) where
  pub clear_none : (at end : ℕ) → at ≡ end → clear_in taken at end ≡ []
  unfolding clear_in
  clear_none at end e = let z : end - at ≡ 0 = omega arith in rw z

  pub clear_more : (at k : ℕ) → at ≤ k → k < mask_count
      → clear_in taken at (k + 1) ≡ clear_in taken at k ++ cons_if (clear_of taken (get_or mask_table k 0)) (get_or mask_table k 0) []
  unfolding clear_in
  clear_more at k le lt =
      let n : k + 1 - at ≡ k - at + 1 = omega arith in
      let e : at + (k - at) ≡ k = omega arith in
      let clear = clear_of taken in
      ap (λ (j : ℕ). keep clear (part mask_table at j)) n
      ∙ ap (keep clear) (part-more mask_table at (k - at) (omega (arith, length-table)))
      ∙ keep_append clear (part mask_table at (k - at)) (get_or mask_table (at + (k - at)) 0 ∷ [])
      ∙ ap (λ (j : ℕ). keep clear (part mask_table at (k - at)) ++ cons_if (clear (get_or mask_table j 0)) (get_or mask_table j 0) []) e

  pub runs_none : (first : ℕ) → clear_runs taken first 0 ≡ []
  unfolding clear_runs
  runs_none first = refl

  pub runs-more : (first k : ℕ)
      → clear_runs taken first (k + 1) ≡ clear_runs taken first k ++ cons_if (clear_of taken (first * 2 ^ k)) (first * 2 ^ k) []
  unfolding clear_runs
  runs-more first k =
      ap (keep (clear_of taken)) (table_more run k) ∙ keep_append (clear_of taken) (map run (up_from 0 k)) (run k ∷ [])
    where
      run : ℕ → ℕ
      run j = first * 2 ^ j

-- a list so far, and the next mask written behind it
listed_more : (list : List ℕ) (from next : ℕ) (so : List ℕ) (m : ℕ) (b : Bool) → from ≤ next → next < length list
    → part list from (next - from) ≡ so → part (set list next m) from (next + one b - from) ≡ so ++ cons_if b m []
listed_more list from next so m b le lt is = by b
  where
    kept : part (set list next m) from (next - from) ≡ so
    kept =
        ap (λ (l : List ℕ). part l from (next - from)) (overwrite-one list next m lt)
        ∙ overwrite_frame list next (m ∷ []) (omega arith) from (next - from) (inl (omega arith)) ∙ is

    by : (b : Bool) → part (set list next m) from (next + one b - from) ≡ so ++ cons_if b m []
    by true =
        let e : next + 1 - from ≡ next - from + 1 = omega arith in
        let at : from + (next - from) ≡ next = omega arith in
        rw (e, part-more (set list next m) from (next - from) (omega (arith, length-set list next m)), at, get_or-set_same list next m 0 lt)
        (ap (λ (l : List ℕ). l ++ (m ∷ [])) kept)
    by false = let e : next + 0 - from ≡ next - from = omega arith in rw e (kept ∙ sym (append-nil so))

pub lists-none : {room from : ℕ} {before : List ℕ} → Lists [] room from before before from
lists-none {from = from} =
    let e : from - from ≡ 0 = omega arith in
    record { listed = rw e refl; starts = omega arith; ends = omega arith; only = only_refl }

-- the place moves on where the mask is clear
pub lists-more : {so more : List ℕ} {room from : ℕ} {before list : List ℕ} {next : ℕ} (taken m r : ℕ) → r ≡ one (clear_of taken m)
    → more ≡ so ++ cons_if (clear_of taken m) m [] → from + room ≤ length before → next < from + room
    → Lists so room from before list next → Lists more room from before (set list next m) (next + r)
lists-more {so} {room = room} {from = from} {list = list} {next = next} taken m r e is fits lt l =
    let le : next < length list = omega (arith, l.only.long) in
    record {
      listed = ap (λ (j : ℕ). part (set list next m) from (next + j - from)) e
          ∙ listed_more list from next so m (clear_of taken m) l.starts le l.listed ∙ sym is;
      starts = omega (arith, l.starts);
      ends = omega (arith, one-le (clear_of taken m));
      only = only_trans l.only
          (rw (overwrite-one list next m le) (overwrite-only list next (m ∷ []) (omega arith) from room l.starts (omega arith)));
    }

-- with more room
pub lists_wider : {masks : List ℕ} {room from : ℕ} {before after : List ℕ} {r : ℕ} (room' : ℕ) → room ≤ room' → Lists masks room from before after r
    → Lists masks room' from before after r
lists_wider {from = from} room' h l = record {
  listed = l.listed;
  starts = l.starts;
  ends = omega (arith, l.ends);
  only = only_wider l.only from room' (omega arith) (omega arith);
}

-- the same masks, by another name
pub lists-same : {so masks : List ℕ} {room from : ℕ} {before after : List ℕ} {r : ℕ} → so ≡ masks → Lists so room from before after r
    → Lists masks room from before after r
lists-same e l = record { listed = l.listed ∙ e; starts = l.starts; ends = l.ends; only = l.only }

-- ---- what is listed is below a bound

keep_low : (n : ℕ) → 0 < n → (f : ℕ → Bool) (l : List ℕ) → ((a : ℕ) → Memᴰ a l → a < n) → (i : ℕ) → get_or (keep f l) i 0 < n
keep_low n pos f l h = at_each (keep f l) 0 (λ a m. h a (mem-of-keep f l m).0) pos

-- the masks of the table are below their number
mask_low : (i : ℕ) → get_or mask_table i 0 < mask_count
unfolding mask_table groups_below
mask_low i = by (dec_lt i mask_count)
  where
    by : Dec (i < mask_count) → get_or mask_table i 0 < mask_count
    by (yes h) =
        let r = mem-of-flat_map group (up_from 0 (suc max_window)) (mem-get_or mask_table i 0 (omega (arith, length-table))) in
        ((mem-group r.0 (get_or mask_table i 0)).0 r.2).0
    by (no h) = rw (get_or-eq_default mask_table 0 {n = i} (omega (arith, length-table))) (lit< tt)

pub clear_low : (taken at end i : ℕ) → get_or (clear_in taken at end) i 0 < mask_count
unfolding clear_in
clear_low taken at end =
    keep_low mask_count (lit< tt) (clear_of taken) (part mask_table at (end - at))
    (λ a m.
    let r = place 0 m in
    subst (λ (x : ℕ). x < mask_count) r.2 (part-below mask_count (lit< tt) mask_table at (end - at) mask_low r.0))

pub runs-low : (taken first count n : ℕ) → 0 < n → ((k : ℕ) → k < count → first * 2 ^ k < n) → (i : ℕ) → get_or (clear_runs taken first count) i 0 < n
unfolding clear_runs
runs-low taken first count n pos h =
    keep_low n pos (clear_of taken) (map (λ k. first * 2 ^ k) (up_from 0 count))
    (λ a m.
    let r = Memᴰ.of_map (λ k. first * 2 ^ k) (up_from 0 count) m in
    subst (λ (x : ℕ). x < n) r.2 (h r.0 (omega (arith, mem-of-up_from 0 count r.1))))
