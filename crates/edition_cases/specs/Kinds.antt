-- The kinds of cases by their numbers: a plan sent forth, a plan sent back, a certificate that is widened.
use Rattle.std.specs.Prelude.{ℕ, Bool, ◌||◌, eqb}

abbrev pub is_edition_kind : ℕ → Bool
is_edition_kind k = eqb k 9 || eqb k 10 || eqb k 11
