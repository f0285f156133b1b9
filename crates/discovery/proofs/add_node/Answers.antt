-- `discovery::add_node` meets its contract: the row is found or appended. Assumes nothing.
use mathlib.Core.Path.{sym, subst}
use mathlib.Core.List.{[], ◌∷◌}
use native.Mathlib.Omega.{arith}
use Rattle.std.specs.Prelude.{None, Some}
use Rattle.graph.specs.View.{node_of}
use Rattle.discovery.specs.Discovery.{Adds}
use Rattle.discovery.proofs.Nodes.{adds_answer}
use Rattle.discovery.proofs.add_node.Goals as goal

pub returns-in_err-place : goal.returns-in_err-place
returns-in_err-place c =
    let a = c.args in
    let u = a.node in
    subst (Adds u.cells (λ ts. node_of ts u ∷ []) a.m.now a.n c.find_or_append.new.m) (sym c.from_residual.ensures)
    (adds_answer u (omega (arith, c.well_formed)) a.m.now c.find_or_append.new.m a.n c.row_of.result c.row_of.ensures
    c.find_or_append.result None c.find_or_append.ensures c.in_err-place.was)

pub returns : goal.returns
returns c =
    let a = c.args in
    adds_answer a.node (omega (arith, c.well_formed)) a.m.now c.find_or_append.new.m a.n c.row_of.result c.row_of.ensures
    c.find_or_append.result (Some c.in_ok-place.place) c.find_or_append.ensures c.in_ok-place.was
