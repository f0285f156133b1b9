-- `policy::displaced` meets its contract: each test is the definition's.
-- Assumes nothing.
use Rattle.std.proofs.Common.{◌≡◌, refl, sym, ◌∙◌, subst, Bool, true, false, cond, not, ◌&&◌, List, ℕ, ◌-◌, ◌<◌, ◌≤◌, get_or, lt-ltb, le-ltb, eq-eqb, ne_eqb, ltb, eqb, arith}
use Rattle.std.proofs.lemmas.Bool.{eqb-true, eqb-false}
use Rattle.std.specs.Prelude as rust
use Rattle.std.specs.Prelude.{None, Some}
use Rattle.std.specs.Option.{option_eq}
use Rattle.model.specs.Limits.{max_tasks}
use Rattle.policy.specs.View.{slot_cells, task_in, displaced_task, cell_number}
use Rattle.policy.proofs.displaced.Goals as goal
use Rattle.policy.proofs.displaced.Goals.{then-before-lt-ROW-via-then-before-lt-ROW, then-before-lt-ROW-via-else-before-lt-ROW+then-before, then-cells-from-eq0-via-then-cells-from-eq0, then-cells-from-eq0-via-else-cells-from-eq0+then-eq}

-- the test for the cell that is chosen now
at-is : (at : rust.Option ℕ) (up : ℕ) → up < slot_cells → option_eq eqb at (Some up) ≡ eqb up (cell_number at)
at-is None up lt = sym (ne_eqb up slot_cells (λ e. omega arith))
at-is (Some k) up lt = go (eqb k up) refl
  where
    go : (b : Bool) → eqb k up ≡ b → b ≡ eqb up k
    go true e = sym (eq-eqb up k (sym (eqb-true k up e)))
    go false e = sym (ne_eqb up k (λ f. eqb-false k up e (sym f)))

-- the task by the values of the tests
module _ (cells : List ℕ) (ran at : ℕ) where
  by_tests : (a b d e : Bool) → ltb ran slot_cells ≡ a → ltb ran max_tasks ≡ b → ltb 0 (get_or cells (ran - max_tasks) 0) ≡ d → eqb (ran - max_tasks) at ≡ e →
      cond (a && not b && d && not e) (task_in (ran - max_tasks)) 0 ≡ displaced_task cells ran at
  unfolding displaced_task
  by_tests a b d e p q r s = λ i. cond (sym p i && not (sym q i) && sym r i && not (sym s i)) (task_in (ran - max_tasks)) 0

  -- past the first two tests
  inside : ran < slot_cells → max_tasks ≤ ran → (d e : Bool) → ltb 0 (get_or cells (ran - max_tasks) 0) ≡ d → eqb (ran - max_tasks) at ≡ e →
      cond (d && not e) (task_in (ran - max_tasks)) 0 ≡ displaced_task cells ran at
  inside lt ge d e = by_tests true false d e (lt-ltb ran slot_cells lt) (le-ltb ran max_tasks ge)

pub returns-in_default : goal.returns-in_default
returns-in_default c =
    rw c.in_default.is (by_tests c.args.cells.now slot_cells (cell_number c.args.at) false _ _ _ (le-ltb slot_cells slot_cells (omega arith)) refl refl refl)

pub returns-then-before-lt-ROW : goal.returns-then-before-lt-ROW
returns-then-before-lt-ROW c =
    let k = c.in-Some.before in
    let cells = c.args.cells.now in
    rw c.in-Some.is (elim c.then-before-lt-ROW.branch [
      | then-before-lt-ROW-via-then-before-lt-ROW w ↦
          by_tests cells k (cell_number c.args.at) true true _ _ (lt-ltb k slot_cells (omega arith)) (lt-ltb k max_tasks w.if-before-lt-ROW.true) refl refl
      | then-before-lt-ROW-via-else-before-lt-ROW+then-before w ↦
          by_tests cells k (cell_number c.args.at) false _ _ _ (le-ltb k slot_cells w.if-before.true) refl refl refl
    ])

pub returns-then-cells-from-eq0 : goal.returns-then-cells-from-eq0
returns-then-cells-from-eq0 c =
    let k = c.in-Some.before in
    let at = cell_number c.args.at in
    let cells = c.args.cells.now in
    rw c.in-Some.is (elim c.then-cells-from-eq0.branch [
      | then-cells-from-eq0-via-then-cells-from-eq0 w ↦
          inside cells k at c.if-before.false c.if-before-lt-ROW.false false _
          (le-ltb 0 (get_or cells (k - max_tasks) 0) (subst (λ (n : ℕ). get_or cells n 0 ≤ 0) c.from.ensures (omega (arith, w.if-cells-from-eq0.true)))) refl
      | then-cells-from-eq0-via-else-cells-from-eq0+then-eq w ↦
          inside cells k at c.if-before.false c.if-before-lt-ROW.false true true
          (lt-ltb 0 (get_or cells (k - max_tasks) 0) (subst (λ (n : ℕ). 0 < get_or cells n 0) c.from.ensures (omega (arith, w.if-cells-from-eq0.false))))
          (sym (at-is c.args.at (k - max_tasks) (omega arith)) ∙ sym w.eq.ensures ∙ w.if-eq.true)
    ])

pub returns : goal.returns
returns c =
    let k = c.in-Some.before in
    let at = cell_number c.args.at in
    let cells = c.args.cells.now in
    rw c.in-Some.is (
    c.task_number.ensures
    ∙ rw (lt-ltb (k - max_tasks) slot_cells (omega arith))
    (inside cells k at c.if-before.false c.if-before-lt-ROW.false true false
    (lt-ltb 0 (get_or cells (k - max_tasks) 0) (subst (λ (n : ℕ). 0 < get_or cells n 0) c.from.ensures (omega (arith, c.if-cells-from-eq0.false))))
    (sym (at-is c.args.at (k - max_tasks) (omega arith)) ∙ sym c.eq.ensures ∙ c.if-eq.false))
    )
