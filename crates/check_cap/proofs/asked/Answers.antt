-- `check_cap::asked` meets its contract: the arguments are those that were read.
-- Assumes nothing.
use mathlib.Core.Path.{◌∙◌}
use mathlib.Core.List.{[], ◌∷◌}
use Rattle.std.specs.Option.{option_zip}
use Rattle.check_cap.proofs.asked.Goals as goal

pub returns : goal.returns
returns g c =
    let w = c.number_at-2.ensures in
    let k = c.number_at.ensures in
    (k.0 ∷ w.0 ∷ [], c.zip.ensures ∙ (λ i. option_zip (k.1 i) (w.1 i)))
