-- `graph::fits` meets its contract, test by test.
-- Assumes nothing.
use mathlib.Core.Path.{◌≡◌, sym, ap, ◌∙◌, subst}
use mathlib.Core.Bool.{Bool, true, not, ◌&&◌, ◌||◌}
use Prim.Native.Nat.{ℕ, suc, ◌+◌, ◌-◌, ◌*◌, ◌/◌, ◌%◌, ◌^◌, ◌<◌, ◌≤◌}
use native.Mathlib.Nat.{lt_of_lt_of_le}
use native.Mathlib.Numerals.{add-one}
use native.Mathlib.Omega.{arith}
use borrow.Author.Tests.{eq-eqb, ne_eqb}
use lib.Bits.{bit_and}
use lib.Count
use lib.Dec.{eqb}
use lib.Pow.{pow_mono, pow_pos}
use Rattle.model.specs.Limits.{max_window}
use Rattle.model.specs.Lists.{any, up_from, ones}
use Rattle.model.specs.Masks.{bit_run, neighbouring}
use Rattle.model.proofs.Runs.{one-moved, ones-counted, run_fits}
use Rattle.plan.specs.declared.tasks.Task.{Task}
use Rattle.plan.specs.View.{task_view}
use Rattle.graph.specs.Choice.{fits_task}
use Rattle.masks.proofs.Groups.{ones-le}
use Rattle.graph.proofs.Search.{within, beyond, fits-zero, fits_idle, fits_beyond, fits-other, fits_work}
use Rattle.graph.proofs.fits.Goals as goal

-- ones for the task's work within its window
record Works (task : Task) (m : ℕ) : Type 0 where
  pub some : m ≡ 0 → ⊥
  pub low : m < 2 ^ task.window
  pub size : ones task.window m ≡ task.work

works : (task : Task) (m : ℕ) → (m ≡ 0 → ⊥) → m / 2 ^ task.window ≡ 0 → Count.ones m ≡ task.work → Works task m
works task m some zero is =
    let lt : m < 2 ^ task.window = within m task.window zero in
    record { some = some; low = lt; size = sym (ones-counted task.window m lt) ∙ is }

-- where all tests before are passed
module _ (task : Task) (pattern m : ℕ) (w : Works task m) where
  worked : {released : Bool} → released ≡ true → fits_task (task_view task) released pattern m ≡ (eqb (bit_and m pattern) 0 && (not task.locked || neighbouring task.window m))
  worked is = ap (λ b. fits_task (task_view task) b pattern m) is ∙ fits_work (task_view task) pattern m w.some w.size w.low

  -- clear of the pattern
  clear : {released : Bool} → released ≡ true → bit_and m pattern ≡ 0 → fits_task (task_view task) released pattern m ≡ (not task.locked || neighbouring task.window m)
  clear is e = worked is ∙ ap (λ b. b && (not task.locked || neighbouring task.window m)) (eq-eqb _ 0 e)

module _ (task : Task) (m : ℕ) (w : Works task m) where
  -- the work of a mask is at most its window
  work-low : task.work ≤ task.window
  work-low = subst (λ (n : ℕ). n ≤ task.window) w.size (ones-le task.window m)

  -- the shift stays within the word
  whole : task.window ≤ max_window → 1 * 2 ^ task.work % 2 ^ 32 ≡ 2 ^ task.work
  whole few = one-moved 32 task.work (omega (arith, work-low, few))

pub returns-then-m-eq0 : goal.returns-then-m-eq0
returns-then-m-eq0 c =
    let a = c.args in
    sym (fits-zero (task_view a.task) a.pattern a.m a.released c.if-m-eq0.true)

pub returns-then-not-released : goal.returns-then-not-released
returns-then-not-released c =
    let a = c.args in
    sym (ap (λ b. fits_task (task_view a.task) b a.pattern a.m) c.if-not-released.true ∙ fits_idle (task_view a.task) a.pattern a.m c.if-m-eq0.false)

pub returns-then-wide-task-ne0 : goal.returns-then-wide-task-ne0
returns-then-wide-task-ne0 c =
    let a = c.args in
    sym
    (ap (λ b. fits_task (task_view a.task) b a.pattern a.m) c.if-not-released.false
    ∙ fits_beyond (task_view a.task) a.pattern a.m c.if-m-eq0.false (beyond a.m a.task.window c.if-wide-task-ne0.true))

pub returns-then-wide-task : goal.returns-then-wide-task
returns-then-wide-task c =
    let a = c.args in
    let lt : a.m < 2 ^ a.task.window = within a.m a.task.window c.if-wide-task-ne0.false in
    sym
    (ap (λ b. fits_task (task_view a.task) b a.pattern a.m) c.if-not-released.false
    ∙ fits-other (task_view a.task) a.pattern a.m c.if-m-eq0.false
    (λ e. c.if-wide-task.true (ones-counted a.task.window a.m lt ∙ e)) lt)

pub returns-then-m-pattern-ne0 : goal.returns-then-m-pattern-ne0
returns-then-m-pattern-ne0 c =
    let a = c.args in
    let w = works a.task a.m c.if-m-eq0.false c.if-wide-task-ne0.false c.if-wide-task.false in
    sym (worked a.task a.pattern a.m w c.if-not-released.false ∙ ap (λ b. b && (not a.task.locked || neighbouring a.task.window a.m)) (ne_eqb _ 0 c.if-m-pattern-ne0.true))

pub returns-then-not-task : goal.returns-then-not-task
returns-then-not-task c =
    let a = c.args in
    let w = works a.task a.m c.if-m-eq0.false c.if-wide-task-ne0.false c.if-wide-task.false in
    sym (clear a.task a.pattern a.m w c.if-not-released.false c.if-m-pattern-ne0.false ∙ ap (λ b. b || neighbouring a.task.window a.m) c.if-not-task.true)

pub overflow_shl-run : goal.overflow_shl-run
overflow_shl-run c =
    let a = c.args in
    let w = works a.task a.m c.if-m-eq0.false c.if-wide-task-ne0.false c.if-wide-task.false in
    omega (arith, work-low a.task a.m w, c.requires)

pub overflow_sub-run : goal.overflow_sub-run
overflow_sub-run c =
    let a = c.args in
    let w = works a.task a.m c.if-m-eq0.false c.if-wide-task-ne0.false c.if-wide-task.false in
    omega (arith, whole a.task a.m w c.requires, pow_pos a.task.work)

pub is_run-requires : goal.is_run-requires
is_run-requires c =
    let a = c.args in
    let t = a.task in
    let w = works t a.m c.if-m-eq0.false c.if-wide-task-ne0.false c.if-wide-task.false in
    rw (whole t a.m w c.requires) (
      lt_of_lt_of_le (run_fits t.work (t.window + 1) (t.window + 1 + t.work) (omega arith))
          (pow_mono {i = t.window + 1 + t.work} {j = 32} (omega (arith, work-low t a.m w, c.requires))),
      omega (arith, c.requires),
    )

pub returns : goal.returns
unfolding neighbouring
returns c =
    let a = c.args in
    let t = a.task in
    let m = a.m in
    let w = works t m c.if-m-eq0.false c.if-wide-task-ne0.false c.if-wide-task.false in
    c.is_run.ensures
    ∙ ap (λ (x : ℕ). any (λ k. eqb m ((x - 1) * 2 ^ k)) (up_from 0 (t.window + 1))) (whole t m w c.requires)
    ∙ ap (λ (n : ℕ). any (λ k. eqb m (bit_run t.work k)) (up_from 0 n)) (add-one t.window)
    ∙ ap (λ (n : ℕ). any (λ k. eqb m (bit_run n k)) (up_from 0 (suc t.window))) (sym w.size)
    ∙ sym (clear t a.pattern m w c.if-not-released.false c.if-m-pattern-ne0.false ∙ ap (λ b. b || neighbouring t.window m) c.if-not-task.false)
