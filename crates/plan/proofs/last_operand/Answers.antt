-- `plan::last_operand` meets its contract: the bytes past the first two operands, as many as the command has left.
-- Assumes nothing.
use mathlib.Core.Path.{◌≡◌, refl, sym, ap, ◌∙◌}
use mathlib.Core.Logic.{◌⊎◌, inl, inr}
use mathlib.Core.List.{List, map}
use Prim.Native.Nat.{ℕ, ◌-◌}
use native.Mathlib.Omega.{arith}
use lib.ListN.{get_or}
use Rattle.model.specs.Bytes.{number}
use Rattle.model.specs.Edition.{Edition, task_width}
use Rattle.model.specs.Lists.{up_from}
use Rattle.model.specs.Plan.{width, last_operand}
use Rattle.node.specs.Edition.{edition_of}
use Rattle.plan.specs.declared.Command.{Command}
use Rattle.plan.specs.declared.Command.TheVariants.{Policy, States, End, Lock}
use Rattle.plan.specs.View.{command_number}
use Rattle.plan.proofs.last_operand.Goals as goal

module _ (e : Edition) (s : List ℕ) where
  abbrev read : ℕ → ℕ
  read n = number (map (λ i. get_or s i 0) (up_from 2 n))

  -- the last operand, by the bytes that are left
  by_width : (c n : ℕ) → width e c - 3 ≡ n → read n ≡ last_operand e c s
  unfolding last_operand
  by_width c n h = sym (ap read h)

  task-left : (c : ℕ) → c ≡ 1 → width e c - 3 ≡ e.value_width
  unfolding width
  task-left c h = let w : task_width e - 3 ≡ e.value_width = omega arith in ap (λ (k : ℕ). width e k - 3) h ∙ w

  arc-left : (c : ℕ) → c ≡ 4 → width e c - 3 ≡ 1
  unfolding width
  arc-left c h = ap (λ (k : ℕ). width e k - 3) h

  none_of : (c n : ℕ) → c ≡ n → width e n - 3 ≡ 0 → 0 ≡ last_operand e c s
  unfolding number
  none_of c n h k = by_width c 0 (ap (λ (i : ℕ). width e i - 3) h ∙ k)

  none_left : (c : Command) → (c ≡ Policy) ⊎ ((c ≡ States) ⊎ ((c ≡ End) ⊎ (c ≡ Lock))) → 0 ≡ last_operand e (command_number c) s
  unfolding width
  none_left c (inl h) = none_of (command_number c) 2 (ap command_number h) refl
  none_left c (inr (inl h)) = none_of (command_number c) 3 (ap command_number h) refl
  none_left c (inr (inr (inl h))) = none_of (command_number c) 5 (ap command_number h) refl
  none_left c (inr (inr (inr h))) = none_of (command_number c) 9 (ap command_number h) refl

pub returns-in-Task : goal.returns-in-Task
returns-in-Task c =
    let e = edition_of c.args.edition in
    c.number_at.ensures ∙ by_width e c.args.s.now (command_number c.args.c) e.value_width (task-left e c.args.s.now _ (ap command_number c.in-Task.is))

pub returns-in-Arc : goal.returns-in-Arc
returns-in-Arc c =
    let e = edition_of c.args.edition in
    c.number_at-in-Arc.ensures ∙ by_width e c.args.s.now (command_number c.args.c) 1 (arc-left e c.args.s.now _ (ap command_number c.in-Arc.is))

pub returns-in-Policy : goal.returns-in-Policy
returns-in-Policy c = none_left (edition_of c.args.edition) c.args.s.now c.args.c c.in-Policy.is
