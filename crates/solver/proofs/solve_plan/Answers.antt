-- `solver::solve_plan` meets its contract: too many nodes, or the certificate of the plan. Assumes nothing.
use mathlib.Core.Path.{refl, sym, ap, ◌∙◌}
use native.Mathlib.Omega.{arith}
use lib.ListN.{length}
use Rattle.model.specs.Graph.{nodes}
use Rattle.model.specs.Options.{option_of}
use Rattle.plan.specs.View.{plan_of}
use Rattle.words.proofs.Free.{only_trans, only_wider}
use Rattle.links.specs.Links.{links_end}
use Rattle.solver.proofs.Answers.{planned_by, large, small}
use Rattle.solver.proofs.solve_plan.Goals as goal

pub discover-requires-clause-planning : goal.discover-requires-clause-planning
discover-requires-clause-planning c = record { plan = plan_of c.args.plan; planned = planned_by c.requires.0 c.of-machine.ensures }

pub solve_nodes-requires : goal.solve_nodes-requires
solve_nodes-requires c =
    let p = plan_of c.args.plan in
    let of = planned_by c.requires.0 c.of-machine.ensures in (
      record { plan = p; planned = of; holds = c.discover.ensures.discovers.held c.in-Some.n c.in-Some.is p of },
      omega (arith, c.requires.1, c.discover.auto.m),
      c.requires.2,
    )

pub returns-in_default-clause-does : goal.returns-in_default-clause-does
returns-in_default-clause-does c =
    let p = plan_of c.args.plan in
    let of = planned_by c.requires.0 c.of-machine.ensures in
    large p (length (nodes p)) _ _ _ (sym (ap option_of c.in_default.is) ∙ c.discover.ensures.discovers.answer p of) refl refl

pub returns-in_default-clause-only : goal.returns-in_default-clause-only
returns-in_default-clause-only c = only_wider c.discover.ensures.discovers.only 0 links_end (omega arith) (omega arith)

pub returns-clause-does : goal.returns-clause-does
returns-clause-does c =
    let p = plan_of c.args.plan in
    let of = planned_by c.requires.0 c.of-machine.ensures in
    small p (length (nodes p)) _ _ _ _ (sym (ap option_of c.in-Some.is) ∙ c.discover.ensures.discovers.answer p of)
    (c.solve_nodes.ensures.writes p of (c.discover.ensures.discovers.held c.in-Some.n c.in-Some.is p of))

pub returns-clause-only : goal.returns-clause-only
returns-clause-only c =
    only_trans (only_wider c.discover.ensures.discovers.only 0 links_end (omega arith) (omega arith))
    (only_wider c.solve_nodes.ensures.only 0 links_end (omega arith) (omega arith))
