-- The kinds of cases by their numbers: a check, a certificate that is written, its passes, a solve call.
use Rattle.std.specs.Prelude.{ℕ, Bool, ◌||◌, eqb}

abbrev pub is_certificate_kind : ℕ → Bool
is_certificate_kind k = eqb k 3 || eqb k 4 || eqb k 7 || eqb k 8
