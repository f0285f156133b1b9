-- Cells are a canonical form of a node's jobs: the view is injective.
-- Assumes nothing.
use mathlib.Core.Path.{◌≡◌, refl, sym, ◌∙◌, ap, subst}
use mathlib.Core.Bool.{Bool, true, false}
use mathlib.Core.List.Memᴰ
use mathlib.Core.List.{List, [], Memᴰ}
use mathlib.Core.Logic.{◌⊎◌, inl, inr}
use Prim.Native.Nat.{ℕ, ◌≤◌, ◌<◌}
use native.Mathlib.Nat.{eq-zero-or-pos}
use native.Mathlib.Omega.{arith}
use borrow.Author.Tests.{ltb-true, lt-ltb}
use lib.Dec.{ltb}
use lib.ListN.{length, get_or}
use lib.Seq.{ext_get_or}
use Rattle.model.specs.Lists.{cons_if, up_from}
use Rattle.model.specs.Slot.{Job}
use Rattle.model.proofs.Lists.{mem-of-flat_map, mem-flat_map, mem-of-up_from, mem-up_from}
use Rattle.policy.specs.View.{Tasks, slot_cells, job_in, jobs_in, jobs_of, Cells}
use Rattle.policy.proofs.Cells.{jobs_sized, one_cell}

-- the element of a list of one at most
only : (b : Bool) {a x : Job} → Memᴰ a (cons_if b x []) → (b ≡ true) × (a ≡ x)
only true m = (refl, Memᴰ.eq_of_singleton m)
only false m = absurd (Memᴰ.not-nil m)

module _ (ts : Tasks) (cells : List ℕ) where
  -- where a job of the view comes from
  pub job_cell : (n : ℕ) → length cells ≡ n → (j : Job) → Memᴰ j (jobs_of ts cells) → (k : ℕ) × (k < n) × (0 < get_or cells k 0) × (j ≡ job_in ts k (get_or cells k 0))
  job_cell n e j m =
      let t = mem-of-flat_map (λ k. jobs_in ts k (get_or cells k 0)) (up_from 0 n) (subst (Memᴰ j) (jobs_sized ts n cells e) m) in
      let o = only (ltb 0 (get_or cells t.0 0)) t.2 in
      (t.0, omega (arith, mem-of-up_from 0 n t.1), ltb-true 0 (get_or cells t.0 0) o.0, o.1)

  pub cell_job : (n : ℕ) → length cells ≡ n → (k : ℕ) → k < n → 0 < get_or cells k 0 → Memᴰ (job_in ts k (get_or cells k 0)) (jobs_of ts cells)
  cell_job n e k lt p =
      subst (Memᴰ (job_in ts k (get_or cells k 0))) (sym (jobs_sized ts n cells e))
      (mem-flat_map (λ i. jobs_in ts i (get_or cells i 0)) (mem-up_from 0 n {a = k} (omega arith) (omega arith)) (rw (lt-ltb 0 (get_or cells k 0) p) (Memᴰ.head refl)))

-- cells with the same jobs are the same
pub view_injective : (ts : Tasks) (n : ℕ) (a b : List ℕ) → n ≤ slot_cells → Cells ts n a → Cells ts n b → jobs_of ts a ≡ jobs_of ts b → a ≡ b
view_injective ts n a b le ha hb e =
    ext_get_or 0 a b (ha.size ∙ sym hb.size)
    (λ k lt. go k (omega (arith, ha.size)) (eq-zero-or-pos (get_or a k 0)) (eq-zero-or-pos (get_or b k 0)))
  where
    same : (c d : List ℕ) → Cells ts n c → Cells ts n d → jobs_of ts c ≡ jobs_of ts d → (k : ℕ) → k < n → 0 < get_or c k 0 → get_or c k 0 ≡ get_or d k 0
    same c d hc hd f k lt p =
        let t = job_cell ts d n hd.size (job_in ts k (get_or c k 0)) (subst (Memᴰ (job_in ts k (get_or c k 0))) f (cell_job ts c n hc.size k lt p)) in
        let one : k ≡ t.0 =
        one_cell ts k t.0 (omega (arith, t.1)) (omega (arith, t.1)) (hc.left k p) (ap (λ (j : Job). j.task) t.3) (ap (λ (j : Job). j.left) t.3) in
        ap (λ (j : Job). j.work) t.3 ∙ ap (λ i. get_or d i 0) (sym one)

    go : (k : ℕ) → k < n → (get_or a k 0 ≡ 0) ⊎ (0 < get_or a k 0) → (get_or b k 0 ≡ 0) ⊎ (0 < get_or b k 0) → get_or a k 0 ≡ get_or b k 0
    go k lt (inl p) (inl q) = p ∙ sym q
    go k lt (inl p) (inr q) = sym (same b a hb ha (sym e) k lt q)
    go k lt (inr p) q = same a b ha hb e k lt p
