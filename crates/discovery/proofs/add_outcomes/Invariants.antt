-- `discovery::add_outcomes` meets its contract: the patterns' nodes join one after another. Assumes nothing.
use Rattle.std.specs.Prelude.{Some}
use Rattle.discovery.proofs.Growing.{Added}
use Rattle.discovery.proofs.add_outcomes.Given as goal

abbrev pub invariant-loop-k : goal.invariant-loop-k
invariant-loop-k l = Added l.cells l.state l.notes l.initial.m l.n l.k l.m (Some l.known)
