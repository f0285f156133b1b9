-- `exports::jovnetal_check` meets its contract: each answer is its number, and the numbers of an accepted certificate are written.
-- Assumes nothing.
use mathlib.Core.Path.{◌≡◌, sym, ap, ◌∙◌}
use mathlib.Core.List.{List, [], ◌∷◌}
use Prim.Native.Nat.{ℕ}
use Rattle.model.specs.Check.{CheckAnswer}
use Rattle.checker.specs.Promise.{answer_of}
use Rattle.exports.specs.Codes.{check_code, numbers_after}
use Rattle.exports.proofs.jovnetal_check.Goals as goal

pub returns-in-Ok : goal.returns-in-Ok
returns-in-Ok c =
    let t = c.check.ensures in
    let numbers = c.args.numbers.now in
    let answer = sym (ap answer_of c.in-Ok.is) ∙ t.answer in
    let s = c.in-Ok.share in
    let written : ◌≡◌ {A = List ℕ} (c.from.result ∷ c.from-in-Ok.result ∷ s.n ∷ s.k ∷ []) (s.fraction.p ∷ s.fraction.q ∷ s.n ∷ s.k ∷ []) =
    λ i. c.from.ensures i ∷ c.from-in-Ok.ensures i ∷ s.n ∷ s.k ∷ [] in
    record { value = ap check_code answer; numbers_after = written ∙ ap (λ (a : CheckAnswer). numbers_after a numbers) answer; work_after = t.memory }

pub returns-in-Err : goal.returns-in-Err
returns-in-Err c =
    let t = c.check.ensures in
    let numbers = c.args.numbers.now in
    let answer = sym (ap answer_of c.in-Err.is) ∙ t.answer in
    record { value = c.number.ensures ∙ ap check_code answer; numbers_after = ap (λ (a : CheckAnswer). numbers_after a numbers) answer; work_after = t.memory }
