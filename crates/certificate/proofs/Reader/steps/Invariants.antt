-- `certificate::Reader::steps` meets its contract: before each step the reading is those so far, and then what is read from there.
-- Assumes nothing.
use Rattle.std.proofs.Common.{◌≡◌, ◌≤◌, length}
use Rattle.model.specs.Limits.{max_steps}
use Rattle.model.specs.Edition.{Edition}
use Rattle.model.specs.Certificate.{step_width, read_steps}
use Rattle.certificate.specs.View.{step_in}
use Rattle.certificate.proofs.Runs.{Reached}
use Rattle.certificate.proofs.Reader.steps.Given as goal

abbrev pub invariant-loop-i : goal.invariant-loop-i
invariant-loop-i l =
    let bs = l.self.src.now in
    (l.reader.src.now ≡ bs) × (l.reader.at ≤ length bs)
    × ((e : Edition) → l.size ≡ step_width e → Reached (read_steps e) (step_in e bs) bs l.self.at (step_width e) max_steps l.i l.reader.at)
