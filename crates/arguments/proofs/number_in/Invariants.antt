-- `arguments::number_in` meets its contract: the bytes so far are digits, and value is theirs, capped.
-- Assumes nothing.
use mathlib.Core.Path.{◌≡◌}
use mathlib.Core.Bool.{true}
use lib.ListN.{take}
use Rattle.model.specs.Lists.{all}
use Rattle.arguments.specs.Decimal.{is_digit, value_of, capped}
use Rattle.arguments.proofs.number_in.Given as goal

abbrev pub invariant-loop-b : goal.invariant-loop-b
invariant-loop-b l = (all is_digit (take l.b-index l.s) ≡ true) × (l.value ≡ capped (value_of (take l.b-index l.s)))
