-- `policy::slot` meets its contract: the steps on cells are those of the rule.
-- Assumes nothing.
use mathlib.Core.Path.{◌≡◌, refl, ap, ◌∙◌, subst}
use Rattle.std.proofs.Common.{Some}
use mathlib.Core.List.{List, ◌++◌}
use Prim.Native.Nat.{ℕ, ◌<◌}
use native.Mathlib.Omega.{arith}
use Rattle.model.specs.Slot.{key, new_jobs}
use Rattle.policy.specs.View.{slot_cells, jobs_of, tasks_in, Leaves, SlottedBelow, Ruled, Cells, cell_count, joined_cells, first_cell, runnable_cells}
use Rattle.policy.specs.declared.Rules.{Rules}
use Rattle.policy.proofs.Cells.{worked-leaves, aged-leaves}
use Rattle.policy.proofs.NewJobs.{joined-leaves}
use Rattle.policy.proofs.Keys.{Chosen}
use Rattle.policy.proofs.Held.{chosen_cell}
use Rattle.policy.proofs.Rule.{slot_idle, slot-ran}
use Rattle.policy.proofs.slot.Goals as goal

-- the steps up to the choice
record Steps (r : Rules) (cells : List ℕ) (label : ℕ) (ready : List ℕ) (at : ℕ) : Type 0 where
  pub ruled : Ruled r
  pub entered : Leaves (tasks_in r) (jobs_of (tasks_in r) cells ++ new_jobs (tasks_in r) label 1) slot_cells ready
  pub chosen : Chosen (tasks_in r) (key (tasks_in r) r.policy) ready at
  pub first : at ≡ first_cell r.policy (runnable_cells (joined_cells (tasks_in r) cells label) r.hold) r.left

steps : (r : Rules) (cells : List ℕ) (label : ℕ) {ready pool : List ℕ} {at : ℕ} → Ruled r × Cells (tasks_in r) cell_count cells
    → ready ≡ joined_cells (tasks_in r) cells label → pool ≡ runnable_cells ready r.hold → at ≡ first_cell r.policy pool r.left
    → Steps r cells label ready at
steps r cells label {ready} given joins runs is =
    let ruled = given.0 in
    let ts = tasks_in r in
    let entered : Leaves ts (jobs_of ts cells ++ new_jobs ts label 1) slot_cells ready = joined-leaves ts cells label ruled.tasks given.1 joins in
    record {
      ruled = ruled;
      entered = entered;
      chosen = chosen_cell ts _ ruled.hold ready entered.cells r.policy ruled.tasks _ ruled.left (is ∙ ap (λ pool. first_cell r.policy pool r.left) runs);
      first = is ∙ ap (λ pool. first_cell r.policy pool r.left) (runs ∙ ap (λ cells. runnable_cells cells r.hold) joins);
    }

pub returns-in_default : goal.returns-in_default
returns-in_default c =
    let r = c.args.rules.now in
    let ts = tasks_in r in
    let s = steps r c.args.cells.now c.args.label c.requires c.join-ready.ensures c.runnable-pool.ensures c.in_default.ensures.cell in
    let aged = aged-leaves ts s.ruled.tasks _ s.ruled.left c.join-ready.result s.entered.cells c.age.ensures in
    record {
      slotted = record {
        rule = λ P same by. slot_idle P ts _ same by _ _ c.join-ready.result s.entered.jobs slot_cells refl s.chosen.choice _ aged.jobs;
        cells = aged.cells;
        ran = s.first;
      };
      below = tt;
    }

pub bounds-ready-k : goal.bounds-ready-k
bounds-ready-k c = omega (arith, c.from-k.ensures, c.in-Some.ensures.below)

pub run-after-requires : goal.run-after-requires
run-after-requires c =
    let lt : c.from-k.result < slot_cells = omega (arith, c.from-k.ensures, c.in-Some.ensures.below) in
    let s = steps c.args.rules.now c.args.cells.now c.args.label c.requires c.join-ready.ensures c.runnable-pool.ensures (c.from-k.ensures ∙ c.in-Some.ensures.cell) in
    (lt, s.chosen.work lt)

pub returns : goal.returns
returns c =
    let r = c.args.rules.now in
    let ts = tasks_in r in
    let k = c.from-k.result in
    let lt : k < slot_cells = omega (arith, c.from-k.ensures, c.in-Some.ensures.below) in
    let s = steps r c.args.cells.now c.args.label c.requires c.join-ready.ensures c.runnable-pool.ensures (c.from-k.ensures ∙ c.in-Some.ensures.cell) in
    let ran = worked-leaves ts c.join-ready.result k s.entered.cells lt (s.chosen.work lt) c.run-after.ensures in
    let aged = aged-leaves ts s.ruled.tasks _ s.ruled.left c.run-after.result ran.cells c.age-2.ensures in
    subst (λ (n : ℕ). SlottedBelow r c.args.cells.now c.args.label (record { cells = c.age-2.result; ran = Some n; gain = c.gain_in-gain.result })) c.from-k.ensures
    (record {
      slotted = record {
        rule = λ P same by. slot-ran P ts _ same by _ _ c.join-ready.result s.entered.jobs k lt s.chosen.choice _ _ ran.jobs aged.jobs _ c.gain_in-gain.ensures;
        cells = aged.cells;
        ran = s.first;
      };
      below = lt;
    })
