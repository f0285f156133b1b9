-- `policy::code_of` meets its contract: the key has room for the cell below it.
-- Assumes nothing.
use Rattle.std.proofs.Common.{ap, ◌≤◌, ◌+◌, ◌*◌, eq-eqb, ne_eqb, arith}
use Rattle.model.specs.Limits.{max_tasks}
use Rattle.policy.specs.View.{key_number, key_in, code_in, places}
use Rattle.policy.proofs.Keys.{key-low}
use Rattle.policy.proofs.code_of.Goals as goal

pub returns-then-work-eq0 : goal.returns-then-work-eq0
unfolding code_in
returns-then-work-eq0 c = simp (eq-eqb c.args.work 0 c.if-work-eq0.true)

pub overflow_mul-result : goal.overflow_mul-result
overflow_mul-result c =
    let a = c.args in
    let low : key_in a.policy a.k a.work a.left ≤ key_number 255 max_tasks 255 = key-low a.policy a.k a.work a.left (omega arith) (omega arith) in
    omega (arith, c.key_of.ensures, low)

pub overflow_add-result : goal.overflow_add-result
overflow_add-result c =
    let a = c.args in
    let low : key_in a.policy a.k a.work a.left ≤ key_number 255 max_tasks 255 = key-low a.policy a.k a.work a.left (omega arith) (omega arith) in
    omega (arith, c.key_of.ensures, low)

pub returns : goal.returns
unfolding code_in
returns c =
    let a = c.args in
    rw (ne_eqb a.work 0 c.if-work-eq0.false) (ap (λ n. n * places + a.k) c.key_of.ensures)
