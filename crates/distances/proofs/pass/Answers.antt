-- `distances::pass` meets its contract: the nodes one after another. Assumes nothing.
use mathlib.Core.Path.{sym, subst}
use native.Mathlib.Omega.{arith}
use Rattle.distances.specs.Distances.{Passes}
use Rattle.distances.proofs.Advances.{advance-circuit, sought-after}
use Rattle.distances.proofs.Taken.{nodes-count}
use Rattle.distances.proofs.Targets.{passed_up}
use Rattle.distances.proofs.Nodes.{tried-none, tried-more, tried-all}
use Rattle.distances.proofs.pass.Goals as goal

pub loop-u-init : goal.loop-u-init
loop-u-init c P s = tried-none s.search

pub relax_node-requires : goal.relax_node-requires
relax_node-requires c =
    let seeking = c.requires in (
      record { plan = seeking.plan; sought = sought-after (c.loop-u.invariant seeking.plan seeking.sought).advance seeking.sought },
      c.loop-u-test.true,
    )

pub returns-in_err-moved : goal.returns-in_err-moved
returns-in_err-moved c P s =
    let b = c.loop-u.invariant P s in
    subst (Passes P c.args.claim c.args.m.now c.relax_node.new.m) (sym (passed_up c.from_residual.result c.from_residual.ensures.1)) (record {
      advance = advance-circuit b.advance (c.in_err-moved.ensures P (sought-after b.advance s)).advance;
      passed = tt;
      quiet = tt;
    })

pub loop-u-preserved : goal.loop-u-preserved
loop-u-preserved c P s =
    let b = c.loop-u.invariant P s in tried-more c.loop-u-test.true b (c.in_ok-moved.ensures P (sought-after b.advance s))

pub returns : goal.returns
returns c P s = tried-all (c.loop-u.invariant P s) (omega (arith, c.loop-u-test.false, c.loop-u.auto.u-end)) (nodes-count s.priced)
