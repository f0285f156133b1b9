-- `graph::choice` meets its contract.
-- Assumes nothing.
use mathlib.Core.Path.{◌≡◌, sym, ap, ap₂, ◌∙◌}
use mathlib.Core.Bool.{Bool, true, false, cond}
use Prim.Native.Nat.{ℕ, ◌<◌, ◌≤◌, ◌+◌}
use native.Mathlib.Omega.{arith}
use lib.Bits.{or_lt}
use lib.Dec.{eqb}
use lib.ListN.{length, drop}
use Rattle.model.specs.Limits.{max_tasks, max_window}
use Rattle.model.specs.Plan.{Task}
use Rattle.words.specs.Packed.{unpacked}
use Rattle.words.proofs.Packed.{fields-length}
use Rattle.plan.specs.View.{task_view}
use Rattle.policy.specs.View.{tasks_in}
use Rattle.graph.specs.Choice.{chosen_with, next_choice, fits_task, all_zero}
use Rattle.graph.specs.declared.Chosen.{Chosen}
use Rattle.graph.proofs.Search.{fits_low, next-last, next_by, choice_start}
use Rattle.graph.proofs.choice.Goals as goal

-- a mask is worth the value or nothing
worth-most : (b : Bool) (v : ℕ) → cond b 0 v ≤ v
worth-most true v = omega arith
worth-most false v = omega arith

-- the same test of a mask
tested : (taken : ℕ) {t t' : Task} {b b' : Bool} {m m' : ℕ} → t ≡ t' → b ≡ b' → m ≡ m' → fits_task t b taken m ≡ fits_task t' b' taken m'
tested taken e f g = λ i. fits_task (e i) (f i) taken (g i)

pub loop-i-init : goal.loop-i-init
loop-i-init c =
    let a = c.args in
    let r = a.machine.now.ruled in
    record {
      led = choice_start (tasks_in a.machine.now.rules) a.label a.taken (unpacked a.masks) r.tasks.count (fields-length max_tasks a.masks);
      pattern = c.requires;
      gain = omega arith;
    }

pub fits-requires : goal.fits-requires
fits-requires c =
    let r = c.args.machine.now.ruled in
    let range = r.tasks.each c.loop-i.i (omega (arith, r.size)) in
    omega (arith, ap (λ (k : Task). k.window) c.get-task.ensures, range.window)

pub returns-then-not-fits-clause-led : goal.returns-then-not-fits-clause-led
returns-then-not-fits-clause-led c =
    let a = c.args in
    let l = c.loop-i in
    let r = a.machine.now.ruled in
    let ts = tasks_in a.machine.now.rules in
    let given = unpacked a.masks in
    let lt : l.i < length ts = omega (arith, r.size) in
    let test = sym (tested l.chosen.pattern c.get-task.ensures c.is_released-released.ensures c.mask_at-m.ensures) ∙ sym c.fits.ensures ∙ c.if-not-fits.true in
    sym (next_by ts a.label l.i l.chosen given _ lt (omega (arith, fields-length max_tasks a.masks, r.tasks.count)) test) ∙ l.invariant.led

pub with_mask-chosen-requires : goal.with_mask-chosen-requires
with_mask-chosen-requires c =
    let r = c.args.machine.now.ruled in
    let range = r.tasks.each c.loop-i.i (omega (arith, r.size)) in
    let is = c.get-task.ensures in
    (omega (arith, c.loop-i.invariant.gain, r.size, r.tasks.count), omega (arith, ap (λ (k : Task). k.value) is, range.value))

pub loop-i-preserved : goal.loop-i-preserved
loop-i-preserved c =
    let a = c.args in
    let l = c.loop-i in
    let r = a.machine.now.ruled in
    let ts = tasks_in a.machine.now.rules in
    let given = unpacked a.masks in
    let is = c.get-task.ensures in
    let mask = c.mask_at-m.ensures in
    let lt : l.i < length ts = omega (arith, r.size) in
    let range = r.tasks.each l.i lt in
    let test = sym (tested l.chosen.pattern is c.is_released-released.ensures mask) ∙ sym c.fits.ensures ∙ c.if-not-fits.false in
    let with : c.with_mask-chosen.result ≡ chosen_with (task_view c.get-task.result) l.chosen c.mask_at-m.result = c.with_mask-chosen.ensures in
    let low = fits_low (task_view c.get-task.result) c.is_released-released.result l.chosen.pattern c.mask_at-m.result
    (omega (arith, ap (λ (k : Task). k.window) is, range.window)) (sym c.fits.ensures ∙ c.if-not-fits.false) in
    record {
      led =
          ap (λ (k : Chosen). next_choice ts a.label (l.i + 1) k given) (with ∙ ap₂ (λ (k : Task) (m : ℕ). chosen_with k l.chosen m) is mask)
          ∙ sym (next_by ts a.label l.i l.chosen given _ lt (omega (arith, fields-length max_tasks a.masks, r.tasks.count)) test) ∙ l.invariant.led;
      pattern = rw with (or_lt max_window l.chosen.pattern c.mask_at-m.result l.invariant.pattern low);
      gain =
          omega (
            arith,
            ap (λ (k : Chosen). k.gain) with,
            l.invariant.gain,
            worth-most (eqb c.mask_at-m.result 0) c.get-task.result.value,
            ap (λ (k : Task). k.value) is,
            range.value,
          );
    }

pub returns-then-not-are_zero-clause-led : goal.returns-then-not-are_zero-clause-led
returns-then-not-are_zero-clause-led c =
    let a = c.args in
    let l = c.loop-i in
    let given = unpacked a.masks in
    let last : l.i ≡ length (tasks_in a.machine.now.rules) = omega (arith, a.machine.now.ruled.size) in
    let end : l.i ≡ a.machine.now.rules.tasks.count = omega arith in
    let zero : all_zero (drop l.i given) ≡ false = ap (λ (n : ℕ). all_zero (drop n given)) end ∙ sym c.are_zero.ensures ∙ c.if-not-are_zero.true in
    sym (next-last (tasks_in a.machine.now.rules) a.label l.i l.chosen given false last zero) ∙ l.invariant.led

pub returns-clause-led : goal.returns-clause-led
returns-clause-led c =
    let a = c.args in
    let l = c.loop-i in
    let given = unpacked a.masks in
    let last : l.i ≡ length (tasks_in a.machine.now.rules) = omega (arith, a.machine.now.ruled.size) in
    let end : l.i ≡ a.machine.now.rules.tasks.count = omega arith in
    let zero : all_zero (drop l.i given) ≡ true = ap (λ (n : ℕ). all_zero (drop n given)) end ∙ sym c.are_zero.ensures ∙ c.if-not-are_zero.false in
    sym (next-last (tasks_in a.machine.now.rules) a.label l.i l.chosen given true last zero) ∙ l.invariant.led
