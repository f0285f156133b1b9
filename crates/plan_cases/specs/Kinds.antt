-- The kinds of cases by their numbers: a plan, a trace, a gap, two plans, the trace call, a gap for a set.
use Rattle.std.specs.Prelude.{ℕ, Bool, ◌||◌, eqb}

abbrev pub is_plan_kind : ℕ → Bool
is_plan_kind k = eqb k 1 || eqb k 2 || eqb k 5 || eqb k 6 || eqb k 12 || eqb k 15
