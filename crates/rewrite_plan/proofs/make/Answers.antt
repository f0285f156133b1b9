-- `rewrite_plan::make` meets its contract: each command's call does what is due.
-- Assumes nothing.
use mathlib.Core.Path.{◌≡◌, sym, subst}
use mathlib.Core.List.{List}
use Prim.Native.Nat.{ℕ}
use lib.ListN.{length}
use Rattle.refusals.specs.Told.{Answer, Told}
use Rattle.rewrite_plan.specs.Commands.{spelled, due}
use Rattle.rewrite_plan.specs.declared.Command.{Command}
use Rattle.rewrite_plan.proofs.make.Goals as goal

-- what a command is found to be decides
decided : (plan other before after : List ℕ) (r : Answer) {a b : Command} → a ≡ b →
    Told (spelled b) (due b plan other (length before)) before after r → Told (spelled a) (due a plan other (length before)) before after r
decided plan other before after r e t =
    subst (λ (c : Command). Told (spelled c) (due c plan other (length before)) before after r) (sym e) t

pub returns-in-Space : goal.returns-in-Space
returns-in-Space c = let a = c.args in decided a.plan.now a.other.now _ _ _ c.in-Space.is c.rewrite.ensures.told

pub returns-in-Combine : goal.returns-in-Combine
returns-in-Combine c = let a = c.args in decided a.plan.now a.other.now _ _ _ c.in-Combine.is c.rewrite-in-Combine.ensures.told

pub returns-in-Forth : goal.returns-in-Forth
returns-in-Forth c = let a = c.args in decided a.plan.now a.other.now _ _ _ c.in-Forth.is c.forth.ensures.converts.told

pub returns-in-Back : goal.returns-in-Back
returns-in-Back c = let a = c.args in decided a.plan.now a.other.now _ _ _ c.in-Back.is c.back.ensures.converts.told
