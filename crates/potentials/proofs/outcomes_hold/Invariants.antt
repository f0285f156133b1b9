-- `potentials::outcomes_hold` meets its contract: the patterns one after another. Assumes nothing.
use mathlib.Core.Path.{◌≡◌}
use mathlib.Core.Bool.{true}
use mathlib.Core.Option.{some}
use Rattle.model.specs.Certificate.{Certificate, read_certificate}
use Rattle.model.specs.Lists.{all, up_from}
use Rattle.graph.specs.Outcomes.{pattern_in}
use Rattle.potentials.specs.Potentials.{pattern_ok}
use Rattle.potentials.proofs.outcomes_hold.Given as goal

abbrev pub invariant-loop-k : goal.invariant-loop-k
invariant-loop-k l =
    (d : Certificate) → read_certificate l.s ≡ some d →
    all (λ j. pattern_ok l.claim d.potentials l.notes l.noted.count l.m l.cells l.state l.high (pattern_in l.notes j)) (up_from 0 l.k) ≡ true
