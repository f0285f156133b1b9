-- `plan::read_in` meets its contract: before each command the definition's answer is what it reads from there on.
-- Assumes nothing.
use mathlib.Core.Path.{sym, subst, ◌∙◌}
use mathlib.Core.List.{List}
use Prim.Native.Nat.{ℕ, ◌≤◌}
use native.Mathlib.Omega.{arith}
use lib.ListN.{length}
use Rattle.node.specs.Edition.{edition_of}
use Rattle.plan.proofs.Turn.{Reached, reached-start, reached-next, readable, answers_fault, width-fits, at-end, part_of, part_less, none-left, refused_by}
use Rattle.plan.proofs.read_in.Goals as goal

pub loop-c-init : goal.loop-c-init
loop-c-init c = reached-start _ c.nothing_read-r.ensures _ _ _ c.empty_table-next.ensures

pub returns-in_err-g : goal.returns-in_err-g
returns-in_err-g c =
    refused_by c.from_residual.result c.in_err-g.field-0.0 c.from_residual.ensures.1 _
    (answers_fault _ _ _ _ _ _ _ c.loop-c.invariant c.in-Some.ensures.cases.0 c.in_err-g.field-0.0 c.in_err-g.ensures)

pub with_command-r-requires : goal.with_command-r-requires
with_command-r-requires c = readable _ _ _ _ _ _ _ c.loop-c.invariant c.in-Some.ensures.cases.0 c.in_ok-g.g c.in_ok-g.ensures.0 c.in_ok-g.ensures.1

pub slice_bounds-rest-count : goal.slice_bounds-rest-count
slice_bounds-rest-count c =
    let fits = width-fits _ _ _ _ _ _ _ c.loop-c.invariant c.in-Some.ensures.cases.0 c.in_ok-g.g c.in_ok-g.ensures.0 c.in_ok-g.ensures.1 in
    omega (arith, fits, c.width_of.ensures)

pub slice_bounds-rest-start : goal.slice_bounds-rest-start
slice_bounds-rest-start c =
    let fits = width-fits _ _ _ _ _ _ _ c.loop-c.invariant c.in-Some.ensures.cases.0 c.in_ok-g.g c.in_ok-g.ensures.0 c.in_ok-g.ensures.1 in
    let within : c.width_of.result ≤ length c.loop-c.rest.now = omega (arith, fits, c.width_of.ensures) in
    omega arith

pub loop-c-smaller : goal.loop-c-smaller
loop-c-smaller c =
    let fits = width-fits _ _ _ _ _ _ _ c.loop-c.invariant c.in-Some.ensures.cases.0 c.in_ok-g.g c.in_ok-g.ensures.0 c.in_ok-g.ensures.1 in
    part_less c.loop-c.rest.now c.width_of.result (omega (arith, fits, c.width_of.ensures)) (omega (arith, fits, c.width_of.ensures))

pub loop-c-preserved : goal.loop-c-preserved
loop-c-preserved c =
    subst (λ (l : List ℕ). Reached (edition_of c.args.edition) c.args.s.now c.with_command-r.new.next c.with_command-r.result l)
    (part_of c.loop-c.rest.now c.width_of.result _ c.width_of.ensures)
    (reached-next _ _ _ _ _ _ _ c.loop-c.invariant c.in-Some.ensures.cases.0 c.in_ok-g.g c.in_ok-g.ensures.0 c.in_ok-g.ensures.1 _ _ c.with_command-r.ensures)

pub returns : goal.returns
returns c = c.plan_read.ensures ∙ sym (at-end _ _ _ _ _ c.loop-c.invariant (none-left _ c.in_default.ensures.cases))
