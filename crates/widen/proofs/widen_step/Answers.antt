-- `widen::widen_step` meets its contract: the label and the masks are those of the step in place.
-- Assumes nothing.
use mathlib.Core.Path.{ap, ◌∙◌}
use Prim.Native.Nat.{◌+◌}
use lib.ListN.{get_or}
use Rattle.model.specs.Edition.{long_reads}
use Rattle.model.specs.Bytes.{overwrite}
use Rattle.model.specs.Certificate.{step_bytes}
use Rattle.widen.proofs.widen_step.Goals as goal

pub returns : goal.returns
returns c =
    let a = c.args in
    c.write_step.ensures
    ∙ ap (λ ms. overwrite a.out.now a.at (step_bytes long_reads (record { label = get_or a.s.now (a.from + 1) 0; masks = ms })))
    c.masks_at.ensures
