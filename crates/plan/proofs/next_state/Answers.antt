-- `plan::next_state` meets its contract: a pair's entry is its next state, and past the table's labels there is none.
-- Assumes nothing.
use mathlib.Core.Path.{◌≡◌, refl, sym, ap, ◌∙◌}
use Rattle.std.specs.Prelude as rust
use Rattle.std.specs.Prelude.{None, Some}
use Rattle.std.specs.Option.{SomeIff}
use Prim.Native.Nat.{ℕ, zero, suc, ◌-◌, ◌≤◌}
use native.Mathlib.Omega.{arith}
use mathlib.Core.Option.{some}
use lib.ListN.{get_or}
use Rattle.model.specs.Options.{option_of}
use Rattle.plan.specs.View.{next_of}
use Rattle.plan.proofs.View.{next_in_table, next_past_table}
use Rattle.plan.proofs.next_state.Goals as goal

one-less : (o : rust.Option ℕ) (v : ℕ) → SomeIff o (1 ≤ v) (v - 1) → option_of o ≡ next_of v
one-less None zero h = refl
one-less None (suc v) h = absurd (h (omega arith))
one-less (Some t) zero h = absurd (omega (arith, h.0))
one-less (Some t) (suc v) h = ap some (omega (arith, h.1))

pub returns-then-l-ge-LABELS : goal.returns-then-l-ge-LABELS
returns-then-l-ge-LABELS c = sym (next_past_table _ _ _ c.if-l-ge-LABELS.true)

pub returns : goal.returns
returns c =
    one-less c.checked_sub.result _ c.checked_sub.ensures
    ∙ ap (λ (k : ℕ). next_of (get_or c.args.next.now k 0)) c.pair.ensures
    ∙ sym (next_in_table c.args.next.now _ _ c.requires c.if-l-ge-LABELS.false)
