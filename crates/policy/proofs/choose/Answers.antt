-- `policy::choose` meets its contract: the loop finds the least code.
-- Assumes nothing.
use Rattle.std.proofs.Common.{◌≡◌, ℕ, ◌%◌, cond, ltb, refl, sym, ap, ap₂, ◌∙◌, add-one, eq-eqb, ne_eqb, arith}
use Rattle.policy.specs.View.{slot_cells, places, no_code, code_at, least_code, cell_of, first_cell}
use Rattle.policy.proofs.Keys.{least-min, cell-below}
use Rattle.policy.proofs.choose.Goals as goal

pub loop-k-init : goal.loop-k-init
unfolding least_code
loop-k-init c = refl

pub loop-k-preserved : goal.loop-k-preserved
unfolding least_code
loop-k-preserved c =
    let a = c.args in
    let k = c.loop-k.k in
    c.min-best.ensures ∙ least-min c.loop-k.best c.code_of.result
    ∙ ap₂ (λ (b d : ℕ). cond (ltb b d) b d) c.code_of.ensures c.loop-k.invariant
    ∙ ap (least_code (code_at a.policy a.cells.now a.left.now)) (sym (add-one k))

pub returns-then-best : goal.returns-then-best
unfolding first_cell
returns-then-best c =
    let a = c.args in
    let end : c.loop-k.k ≡ slot_cells = omega arith in
    let all = c.loop-k.invariant ∙ ap (least_code (code_at a.policy a.cells.now a.left.now)) end in
    let none : slot_cells ≡ cell_of c.loop-k.best = rw (eq-eqb c.loop-k.best no_code c.if-best.true) in
    record { cell = none ∙ ap cell_of all; below = tt }

pub returns : goal.returns
unfolding first_cell
returns c =
    let a = c.args in
    let codes = code_at a.policy a.cells.now a.left.now in
    let end : c.loop-k.k ≡ slot_cells = omega arith in
    let all : c.loop-k.best ≡ least_code codes slot_cells = c.loop-k.invariant ∙ ap (least_code codes) end in
    let some : c.loop-k.best % places ≡ cell_of c.loop-k.best = rw (ne_eqb c.loop-k.best no_code c.if-best.false) in
    record {
      cell = some ∙ ap cell_of all;
      below = rw all (cell-below a.policy a.cells.now a.left.now slot_cells (omega arith) (λ e. c.if-best.false (all ∙ e)));
    }
