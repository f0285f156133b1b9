-- `exports::code` meets its contract: each answer is its number.
-- Assumes nothing.
use mathlib.Core.Path.{◌≡◌, sym, ap, ◌∙◌}
use Rattle.refusals.specs.Told.{Answer, result_by}
use Rattle.exports.specs.Codes.{code_of}
use Rattle.exports.proofs.code.Goals as goal

-- the number of an answer that a match has told
code-as : {a b : Answer} → a ≡ b → code_of (result_by b) ≡ code_of (result_by a)
code-as e = sym (ap (λ (r : Answer). code_of (result_by r)) e)

pub returns-in-Ok : goal.returns-in-Ok
returns-in-Ok c = code-as c.in-Ok.is

pub returns-in-Err : goal.returns-in-Err
returns-in-Err c = c.refusal_code.ensures ∙ code-as c.in-Err.is
