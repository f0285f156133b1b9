-- `records::run_cases`: whatever calls are still to come, with those so far they are all.
-- Assumes nothing.
use Rattle.std.proofs.Common.{◌≡◌, List, ℕ, length, ◌+◌}
use Rattle.std.specs.List.{FoldsTo}
use Rattle.records.proofs.run_cases.Given as goal

abbrev pub invariant-loop : goal.invariant-loop
invariant-loop g l =
    goal.F-IsAlwaysCallable g l.run
    × ((later : List ℕ) (last : _) → FoldsTo (λ p k q. (file : _) × (known : _) × (left : _) × goal.F-step g p k file known left q) l.run later last →
    (kinds : List ℕ) × (length kinds ≡ l.counter + length later) × FoldsTo (λ p k q. (file : _) × (known : _) × (left : _) × goal.F-step g p k file known left q) l.initial.run kinds last)
