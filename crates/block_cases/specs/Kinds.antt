-- The kinds of cases by their numbers: a script of writes to a register block, and its call without state.
use Rattle.std.specs.Prelude.{ℕ, Bool, ◌||◌, eqb}

abbrev pub is_block_kind : ℕ → Bool
is_block_kind k = eqb k 13 || eqb k 14
