-- The masks of a locked task: the runs of its work's bits below its window, upward.
-- Assumes nothing.
use mathlib.Core.Path.{◌≡◌, sym, ap, ◌∙◌}
use mathlib.Core.Bool.{Bool, true, false, cond, ◌&&◌}
use mathlib.Core.Logic.{◌↔◌}
use mathlib.Core.List.Memᴰ
use mathlib.Core.List.{List, [], ◌∷◌, map, Memᴰ}
use Prim.Native.Nat.{ℕ, suc, ◌+◌, ◌-◌, ◌^◌, ◌≤◌}
use native.Mathlib.Omega.{arith}
use lib.Dec.{eqb}
use lib.Pow.{suc_ones}
use borrow.Author.Tests.{eqb-true, eq-eqb}
use Rattle.model.specs.Lists.{cons_if, keep, up_from, ones}
use Rattle.model.specs.Masks.{bit_run, neighbouring, free_masks, masks_of}
use Rattle.model.specs.Plan.{Task}
use Rattle.model.proofs.Lists.{keep-keep, keep_comm, mem-of-keep, mem-keep, mem-of-up_from, mem-up_from, rising-up_from, rising-keep, rising-same, rising-table}
use Rattle.model.proofs.Runs.{run-ones, run_fits, run-below, run-pos, run-rises, neighbouring-run, zero-neighbouring}
use Rattle.masks.specs.Clear.{clear_of, clear_runs}

-- the masks of c neighbouring ones below bit D, as they are listed from 1 up
module _ (c D : ℕ) (some : 1 ≤ c) (fits : c ≤ D) where
  abbrev below : List ℕ
  below = up_from 1 (2 ^ D - 1)

  abbrev counted : List ℕ
  counted = keep (λ m. eqb (ones D m) c) below

  abbrev runs : List ℕ
  runs = map (bit_run c) (up_from 0 (suc (D - c)))

  mem-runs : (m : ℕ) → Memᴰ m (keep (neighbouring D) counted) ↔ Memᴰ m runs
  mem-runs m = (
    λ h.
        let kept = mem-of-keep (neighbouring D) counted h in
        let among = mem-of-keep (λ k. eqb (ones D k) c) below kept.0 in
        let r = (neighbouring-run D m).0 kept.1 in
        let is : m ≡ bit_run c r.0 = r.2 ∙ ap (λ (j : ℕ). bit_run j r.0) (eqb-true (ones D m) c among.1) in
        let low : r.0 + c ≤ D = run-below c r.0 D some (omega (arith, is, suc_ones D, mem-of-up_from 1 (2 ^ D - 1) among.0)) in
        Memᴰ.cast is (Memᴰ.map (bit_run c) (mem-up_from 0 (suc (D - c)) (omega arith) (omega arith))),
    λ h.
        let r = Memᴰ.of_map (bit_run c) (up_from 0 (suc (D - c))) h in
        let k = r.0 in
        let low : k + c ≤ D = omega (arith, mem-of-up_from 0 (suc (D - c)) r.1) in
        let has : ones D m ≡ c = ap (ones D) (sym r.2) ∙ run-ones c k D low in
        mem-keep (neighbouring D)
        (mem-keep (λ j. eqb (ones D j) c)
        (mem-up_from 1 (2 ^ D - 1) (omega (arith, r.2, run-pos c k some)) (omega (arith, r.2, suc_ones D, run_fits c k D low)))
        (eq-eqb (ones D m) c has))
        ((neighbouring-run D m).1 (k, omega arith, sym r.2 ∙ ap (λ (j : ℕ). bit_run j k) (sym has))),
  )

  pub runs-upward : keep (neighbouring D) (keep (λ m. eqb (ones D m) c) (up_from 1 (2 ^ D - 1))) ≡ map (bit_run c) (up_from 0 (suc (D - c)))
  runs-upward =
      rising-same 1 (bit_run c 0) (keep (neighbouring D) counted) runs
      (rising-keep (neighbouring D) 1 counted (rising-keep (λ m. eqb (ones D m) c) 1 below (rising-up_from 1 (2 ^ D - 1))))
      (rising-table (bit_run c) (λ k. run-rises c k some) 0 (suc (D - c)))
      mem-runs

-- the masks of a locked task that is released: 0, and the runs that are clear of the pattern
pub locked-masks : (t : Task) (taken : ℕ) → t.locked ≡ true → 1 ≤ t.work → t.work ≤ t.window
    → masks_of t true taken ≡ 0 ∷ clear_runs taken (2 ^ t.work - 1) (suc (t.window - t.work))
unfolding masks_of free_masks clear_runs
locked-masks t taken e some fits =
    ap (λ b. cond b (keep nb (free_masks t true taken)) (free_masks t true taken)) e
    ∙ ap (λ b. cons_if b 0 (keep nb (keep (λ m. has m && clear_of taken m) below))) (zero-neighbouring t.window)
    ∙ ap (λ l. 0 ∷ l)
    (ap (keep nb) (sym (keep-keep (clear_of taken) has below)) ∙ keep_comm nb (clear_of taken) (keep has below)
    ∙ ap (keep (clear_of taken)) (runs-upward t.work t.window some fits))
  where
    nb : ℕ → Bool
    nb = neighbouring t.window

    has : ℕ → Bool
    has m = eqb (ones t.window m) t.work

    below : List ℕ
    below = up_from 1 (2 ^ t.window - 1)

-- and of one that is not
pub locked_idle : (t : Task) (taken : ℕ) → t.locked ≡ true → masks_of t false taken ≡ 0 ∷ []
unfolding masks_of free_masks
locked_idle t taken e =
    ap (λ b. cond b (keep (neighbouring t.window) (0 ∷ [])) (0 ∷ [])) e ∙ ap (λ b. cons_if b 0 []) (zero-neighbouring t.window)
