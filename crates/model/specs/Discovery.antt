-- Discovery over any type: what a start leads to, numbered in the order in which it is found.
use Rattle.std.specs.Prelude.{ℕ, zero, suc, Bool, false, cond, ◌||◌, ltb, length, get_or}
use mathlib.Core.List.{List, [], ◌∷◌, ◌++◌, foldl}

-- by a test of two
module _ {A : Type 0} (same : A → A → Bool) where
  abbrev pub among : A → List A → Bool
  among u [] = false
  among u (v ∷ vs) = same u v || among u vs

  -- one joins those known unless it is among them
  abbrev pub add : List A → A → List A
  add us v = cond (among v us) us (us ++ (v ∷ []))

  -- those known once the first k of them have been explored, each by what follows it, in order
  unfoldable pub found : (A → List A) → A → ℕ → List A
  found next start zero = start ∷ []
  found next start (suc k) =
      let known = found next start k in
      let more = foldl add known (next (get_or known k start)) in
      cond (ltb k (length known)) more known

  -- the number of one: its place among them
  abbrev pub number_in : List A → A → ℕ
  number_in [] u = 0
  number_in (v ∷ vs) u = let later = suc (number_in vs u) in cond (same v u) 0 later
