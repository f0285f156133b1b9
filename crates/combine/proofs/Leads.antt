-- Where a label leads a pair, by the two tables of next states.
-- Assumes nothing.
use mathlib.Core.Path.{◌≡◌, refl, sym, ap, ap₂, ◌∙◌}
use mathlib.Core.List.{List}
use mathlib.Core.Option.{Option, none, some}
use Prim.Native.Nat.{ℕ, ◌+◌, ◌*◌, ◌/◌, ◌%◌, ◌<◌}
use native.Mathlib.Omega.{arith}
use Rattle.std.specs.Prelude as rust
use Rattle.std.specs.Prelude.{None, Some}
use Rattle.model.specs.Options.{option_of}
use Rattle.model.specs.Limits.{max_states}
use Rattle.model.specs.Plan.{next_in}
use Rattle.model.specs.Combine.{pair_of}
use Rattle.plan.specs.View.{arcs_in, StatesFit}
use Rattle.combine.specs.Pairs.{pair_at, pair_in, pair_leads}

-- the number of a pair tells its states
pair_of_lem : (s t : ℕ) → t < max_states → pair_at (max_states * s + t) ≡ record { left = s; right = t }
pair_of_lem s t h =
    let left : (max_states * s + t) / max_states ≡ s = omega arith in
    let right : (max_states * s + t) % max_states ≡ t = omega arith in
    λ i. record { left = left i; right = right i }

no_right : (o : Option ℕ) → none ≡ pair_of o none
no_right none = refl
no_right (some s) = refl

module _ (first second : List ℕ) (pair label : ℕ) where
  abbrev left : Option ℕ
  left = next_in (arcs_in first) (pair / max_states) label

  abbrev right : Option ℕ
  right = next_in (arcs_in second) (pair % max_states) label

  abbrev Led : rust.Option ℕ → Type 0
  Led r = pair_in r ≡ pair_leads first second (pair_at pair) label

  -- the first automaton leads nowhere
  pub first-none : (s : rust.Option ℕ) → option_of s ≡ left → s ≡ None → Led None
  first-none s e z = ap (λ (o : Option ℕ). pair_of o right) (ap option_of (sym z) ∙ e)

  -- the second one leads nowhere
  pub second_none : (t : rust.Option ℕ) → option_of t ≡ right → t ≡ None → Led None
  second_none t e z = no_right left ∙ ap (pair_of left) (ap option_of (sym z) ∙ e)

  -- both lead on
  pub left_small : StatesFit first → (s : rust.Option ℕ) (x : ℕ) → option_of s ≡ left → s ≡ Some x → x < max_states
  left_small f s x e p = f.to (pair / max_states) label x (sym e ∙ ap option_of p)

  pub right_small : StatesFit second → (t : rust.Option ℕ) (y : ℕ) → option_of t ≡ right → t ≡ Some y → y < max_states
  right_small g t y e p = g.to (pair % max_states) label y (sym e ∙ ap option_of p)

  pub both_lead : StatesFit second → (s t : rust.Option ℕ) (x y : ℕ) → option_of s ≡ left → option_of t ≡ right → s ≡ Some x → t ≡ Some y → Led (Some (max_states * x + y))
  both_lead g s t x y e f p q = ap some (pair_of_lem x y (right_small g t y f q)) ∙ ap₂ pair_of (sym (ap option_of p) ∙ e) (sym (ap option_of q) ∙ f)
