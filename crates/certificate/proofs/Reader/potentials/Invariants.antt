-- `certificate::Reader::potentials` meets its contract: before each potential the reading is those so far, and then what is read from there.
-- Assumes nothing.
use Rattle.std.proofs.Common.{◌≡◌}
use Rattle.model.specs.Certificate.{read_potentials}
use Rattle.certificate.specs.View.{potential_size, potential_in}
use Rattle.certificate.proofs.Runs.{Reached}
use Rattle.certificate.proofs.Reader.potentials.Given as goal

abbrev pub invariant-loop : goal.invariant-loop
invariant-loop l =
    let bs = l.self.src.now in
    (l.reader.src.now ≡ bs) × Reached read_potentials (potential_in bs) bs l.self.at potential_size l.n l.counter l.reader.at
