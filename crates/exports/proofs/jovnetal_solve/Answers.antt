-- `exports::jovnetal_solve` meets its contract: each answer is its number.
-- Assumes nothing.
use mathlib.Core.Path.{◌≡◌, refl, sym, ap, ◌∙◌}
use mathlib.Core.List.{List}
use Prim.Native.Nat.{ℕ}
use Rattle.solver.specs.Promise.{Answer, Solves}
use Rattle.exports.specs.Codes.{solve_code, passes_after, SolvesAs}
use Rattle.exports.proofs.jovnetal_solve.Goals as goal

-- the answer that a match has told
solves-as : {plan work work' out out' passes passes' : List ℕ} {a b : Answer} {r : ℕ} → a ≡ b → r ≡ solve_code b → passes' ≡ passes_after b passes →
    Solves plan work work' out out' a → SolvesAs plan work work' out out' passes passes' r
solves-as {passes = passes} {a = a} e code told solves = record {
  answer = a;
  code = code ∙ ap solve_code (sym e);
  told = told ∙ ap (λ (x : Answer). passes_after x passes) (sym e);
  solves = solves;
}

pub returns-in-Ok : goal.returns-in-Ok
returns-in-Ok c = solves-as c.in-Ok.is refl refl c.solve.ensures

pub returns-in-Err : goal.returns-in-Err
returns-in-Err c = solves-as c.in-Err.is c.refusal_code.ensures refl c.solve.ensures
