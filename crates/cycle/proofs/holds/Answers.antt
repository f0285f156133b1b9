-- `cycle::holds` meets its contract: the tests of the definition, one after the other. Assumes nothing.
use mathlib.Core.Path.{sym, ap, subst, ◌∙◌}
use mathlib.Core.Bool.{true, false}
use Prim.Native.Nat.{◌<◌}
use native.Mathlib.Omega.{arith}
use Rattle.model.specs.Edition.{long_reads}
use Rattle.model.specs.Graph.{nodes}
use Rattle.certificate.specs.View.{certificate_of}
use Rattle.policy.specs.View.{cell_count, Cells, tasks_in}
use Rattle.graph.specs.View.{node_of}
use Rattle.graph.proofs.Edges.{planned-table}
use Rattle.cycle.specs.Cycle.{reached_in}
use Rattle.cycle.proofs.Steps.{planned-follow}
use Rattle.node.specs.declared.Node.{Node}
use Rattle.discovery.specs.Discovery.{node_in}
use Rattle.discovery.proofs.Held.{held-count, held-node}
use Rattle.discovery.proofs.Answer.{node-state, node-taken}
use Rattle.cycle.proofs.Closing.{cycle_free, cycle_outside, cycle_lost, cycle-walked, same_end}
use Rattle.cycle.proofs.holds.Goals as goal

pub returns-then-parts-eq0 : goal.returns-then-parts-eq0
returns-then-parts-eq0 c = let a = c.args in λ P p h. cycle_free P (certificate_of long_reads a.s.now a.parts) c.if-parts-eq0.true

pub returns-then-n-parts : goal.returns-then-n-parts
returns-then-n-parts c =
    let a = c.args in
    λ P p h. cycle_outside P (certificate_of long_reads a.s.now a.parts) c.if-parts-eq0.false
    (omega (arith, c.if-n-parts.true, held-count (tasks_in a.machine.now.rules) a.m.now a.n (nodes P) h.nodes))

pub follow-requires-clause-cells : goal.follow-requires-clause-cells
follow-requires-clause-cells c =
    let a = c.args in
    let held = c.requires.0 in
    let ts = tasks_in a.machine.now.rules in
    let named = c.node_of-from.ensures ∙ ap node_in c.row-row.ensures in
    let below = c.if-n-parts.false in (
      subst (λ (u : Node). Cells ts cell_count u.cells) (sym named) (held.holds.rows.cells a.parts.node below),
      subst (λ (u : Node). u.state < _) (sym named) (node-state held.plan ts a.m.now a.n held.holds held.planned.sound a.parts.node below),
      subst (λ (u : Node). u.taken < _) (sym named) (node-taken held.plan ts a.m.now a.n held.holds held.planned.sound a.parts.node below),
    )

pub follow-requires-clause-table : goal.follow-requires-clause-table
follow-requires-clause-table c = planned-table c.requires.0.planned c.args.machine.now.ruled

pub returns-in_default : goal.returns-in_default
returns-in_default c =
    let a = c.args in
    let ts = tasks_in a.machine.now.rules in
    let below = c.if-n-parts.false in
    let named = c.node_of-from.ensures ∙ ap node_in c.row-row.ensures in
    λ P p h.
    cycle_lost P (certificate_of long_reads a.s.now a.parts) c.if-parts-eq0.false (omega (arith, below, held-count ts a.m.now a.n (nodes P) h.nodes)) ts
    c.node_of-from.result (ap (node_of ts) named ∙ held-node ts a.m.now a.n (nodes P) h.nodes a.parts.node below)
    (sym (ap (reached_in ts) c.in_default.is) ∙ c.follow.ensures.reached ∙ sym (planned-follow p _ _))

pub returns-then-same_row : goal.returns-then-same_row
returns-then-same_row c =
    let a = c.args in
    let ts = tasks_in a.machine.now.rules in
    let below = c.if-n-parts.false in
    let from = c.node_of-from.result in
    let named = c.node_of-from.ensures ∙ ap node_in c.row-row.ensures in
    let walked = c.in-Some.walked in
    let within = c.follow.ensures.within walked c.in-Some.is in
    let same =
    same_end ts a.m.now a.n c.requires.0.holds.rows a.parts.node below from walked.at named within.0 (omega (arith, within.1))
    c.row_of-end.result c.row_of-end.ensures c.same_row.result c.same_row.ensures in
    λ P p h.
    c.is_tight.ensures
    ∙ cycle-walked P (certificate_of long_reads a.s.now a.parts) c.if-parts-eq0.false (omega (arith, below, held-count ts a.m.now a.n (nodes P) h.nodes)) ts
    from (ap (node_of ts) named ∙ held-node ts a.m.now a.n (nodes P) h.nodes a.parts.node below)
    walked (sym (ap (reached_in ts) c.in-Some.is) ∙ c.follow.ensures.reached ∙ sym (planned-follow p _ _)) true (same ∙ c.if-same_row.true)

pub returns-else-same_row : goal.returns-else-same_row
returns-else-same_row c =
    let a = c.args in
    let ts = tasks_in a.machine.now.rules in
    let below = c.if-n-parts.false in
    let from = c.node_of-from.result in
    let named = c.node_of-from.ensures ∙ ap node_in c.row-row.ensures in
    let walked = c.in-Some.walked in
    let within = c.follow.ensures.within walked c.in-Some.is in
    let same =
    same_end ts a.m.now a.n c.requires.0.holds.rows a.parts.node below from walked.at named within.0 (omega (arith, within.1))
    c.row_of-end.result c.row_of-end.ensures c.same_row.result c.same_row.ensures in
    λ P p h.
    c.if-same_row.false
    ∙ cycle-walked P (certificate_of long_reads a.s.now a.parts) c.if-parts-eq0.false (omega (arith, below, held-count ts a.m.now a.n (nodes P) h.nodes)) ts
    from (ap (node_of ts) named ∙ held-node ts a.m.now a.n (nodes P) h.nodes a.parts.node below)
    walked (sym (ap (reached_in ts) c.in-Some.is) ∙ c.follow.ensures.reached ∙ sym (planned-follow p _ _)) false (same ∙ c.if-same_row.false)
