-- `rewrite_plan::asked` meets its contract: the arguments are those that were read.
-- Assumes nothing.
use mathlib.Core.Path.{ap, ◌∙◌}
use mathlib.Core.List.{[], ◌∷◌}
use Rattle.rewrite_plan.specs.Commands.{single_is, counted_is}
use Rattle.rewrite_plan.proofs.asked.Goals as goal

pub returns-in-2 : goal.returns-in-2
returns-in-2 g c = let w = c.word_at.ensures in (w.0 ∷ [], c.alone_in.ensures ∙ ap single_is w.1)

pub returns-in-4 : goal.returns-in-4
returns-in-4 g c =
    let s = c.number_at-in-4.ensures in
    let n = c.number_at.ensures in
    let w = c.word_at-in-4.ensures in
    (w.0 ∷ n.0 ∷ s.0 ∷ [], c.counted.ensures ∙ (λ i. counted_is (w.1 i) (n.1 i) (s.1 i)))
