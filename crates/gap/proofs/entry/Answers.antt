-- `gap::entry` meets its contract: each test is the definition's.
-- Assumes nothing.
use mathlib.Core.Path.{ap, ◌∙◌}
use Prim.Native.Nat.{ℕ}
use native.Mathlib.Omega.{arith}
use Rattle.model.specs.Gap.{gap_next}
use Rattle.plan.specs.View.{entry_of}
use Rattle.gap.proofs.Automaton.{no_state, no_label, by_releases}
use Rattle.gap.proofs.entry.Goals as goal

pub returns-then-gap-state : goal.returns-then-gap-state
returns-then-gap-state c =
    let a = c.args in
    no_state a.gap a.state a.label c.if-gap-state.true

pub returns-then-labels-label : goal.returns-then-labels-label
returns-then-labels-label c =
    let a = c.args in
    no_label a.gap a.state a.label c.if-gap-state.false (omega (arith, c.labels.ensures, c.if-labels-label.true))

pub returns : goal.returns
returns c =
    let a = c.args in
    c.next_entry.ensures
    ∙ ap (λ (n : ℕ). entry_of (gap_next a.gap.slots a.state n)) c.releases.ensures
    ∙ by_releases a.gap a.state a.label c.if-gap-state.false c.requires (omega (arith, c.labels.ensures, c.if-labels-label.false))
