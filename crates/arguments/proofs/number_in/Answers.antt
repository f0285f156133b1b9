-- `arguments::number_in` meets its contract: the bytes so far are digits, and value is theirs, capped.
-- Assumes nothing.
use mathlib.Core.Path.{◌≡◌, refl, sym, ap, ap₂, ◌∙◌}
use mathlib.Core.List.{List}
use Prim.Native.Nat.{ℕ, ◌+◌, ◌<◌}
use native.Mathlib.Omega.{arith}
use borrow.Author.Tests.{eqb-true, eqb-false}
use lib.ListN.{length, take}
use lib.Seq.{take_all}
use Rattle.std.specs.Prelude.{Some, min}
use Rattle.model.specs.Lists.{all}
use Rattle.arguments.specs.Decimal.{is_digit, value_of, largest, capped, number_of}
use Rattle.arguments.proofs.Decimal.{other_byte, digits_more, capped-more, empty, whole}
use Rattle.arguments.proofs.number_in.Goals as goal

pub returns-then-is_empty : goal.returns-then-is_empty
returns-then-is_empty c = sym (ap number_of (empty c.args.s.now (eqb-true (length c.args.s.now) 0 (sym c.is_empty.ensures ∙ c.if-is_empty.true))))

pub loop-b-init : goal.loop-b-init
unfolding value_of capped
loop-b-init c = (refl, refl)

pub returns-then-not-is_ascii_digit : goal.returns-then-not-is_ascii_digit
returns-then-not-is_ascii_digit c =
    let s = c.args.s.now in
    let i = c.loop-b.b-index in
    sym (ap number_of (other_byte s i (omega arith) (sym c.is_ascii_digit.ensures.value ∙ c.if-not-is_ascii_digit.true)))

pub loop-b-preserved : goal.loop-b-preserved
loop-b-preserved c =
    let s = c.args.s.now in
    let l = c.loop-b in
    let i = l.b-index in
    let h : i < length s = omega arith in (
      digits_more s i h l.invariant.0 (sym c.is_ascii_digit.ensures.value ∙ c.if-not-is_ascii_digit.false),
      c.saturating_add-value.ensures ∙ ap₂ (λ (m d : ℕ). min (m + d) largest) c.saturating_mul.ensures c.from.ensures ∙ capped-more s i h l.value l.invariant.1,
    )

pub returns : goal.returns
returns c =
    let s = c.args.s.now in
    let done = c.loop-b in
    let all_read : take done.b-index s ≡ s = take_all done.b-index s (omega arith) in
    ap Some (done.invariant.1 ∙ ap (λ (l : List ℕ). capped (value_of l)) all_read)
    ∙ sym (ap number_of (whole s (eqb-false (length s) 0 (sym c.is_empty.ensures ∙ c.if-is_empty.false)) (ap (all is_digit) (sym all_read) ∙ done.invariant.0)))
