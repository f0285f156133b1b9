-- The kinds of cases by their numbers: the cap call, and a log in parts.
use Rattle.std.specs.Prelude.{ℕ, zero, suc, Bool, ◌||◌, List, [], ◌++◌, eqb}

abbrev pub is_cap_kind : ℕ → Bool
is_cap_kind k = eqb k 16 || eqb k 17

-- labels so many times over
abbrev pub repeated : ℕ → List ℕ → List ℕ
repeated zero labels = []
repeated (suc n) labels = repeated n labels ++ labels
