-- `solution::least`: the fraction falls as long as a cycle is found. Assumes nothing.
use Prim.Native.Nat.{◌+◌}
use Rattle.model.specs.Bytes.{Only}
use Rattle.model.specs.Plan.{Plan}
use Rattle.theory.proofs.Fractions.{fraction_left}
use Rattle.policy.specs.View.{tasks_in}
use Rattle.graph.specs.View.{Planned}
use Rattle.discovery.specs.Discovery.{Holds}
use Rattle.links.specs.Links.{links_at, links_size, steps_size}
use Rattle.solution.proofs.Falls.{Aimed}
use Rattle.solution.proofs.least.Given as goal

abbrev pub invariant-loop-passes : goal.invariant-loop-passes
invariant-loop-passes l =
    Only links_at (links_size + steps_size) l.initial.m l.m
    × ((P : Plan) → Planned P l.machine.rules l.machine.next → Holds P (tasks_in l.machine.rules) l.initial.m l.n →
    Aimed P l.machine.rules l.machine.next l.m l.n l.fraction l.steps)

abbrev pub decreases-loop-passes : goal.decreases-loop-passes
decreases-loop-passes l = fraction_left l.fraction.p l.fraction.q
