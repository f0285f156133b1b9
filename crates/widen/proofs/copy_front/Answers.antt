-- `widen::copy_front` meets its contract: a turn copies one byte more.
-- Assumes nothing.
use Rattle.std.proofs.Common.{◌≡◌, refl, sym, ap, ◌∙◌, ℕ, ◌+◌, arith, get_or, set}
use native.Mathlib.Nat.{zero-add}
use lib.ListN.{length-set}
use Rattle.model.specs.Bytes.{overwrite, part}
use Rattle.words.proofs.Memory.{overwrite-none, overwrite-more, part_length, part-more}
use Rattle.widen.proofs.copy_front.Goals as goal

pub loop-i-init : goal.loop-i-init
loop-i-init c = (sym (overwrite-none c.args.out.now 0), refl)

pub loop-i-preserved : goal.loop-i-preserved
loop-i-preserved c =
    let s = c.args.s.now in
    let out = c.args.out.now in
    let i = c.loop-i.i in
    let here : i ≡ 0 + i = sym (zero-add i) in (
      (λ j. set (c.loop-i.invariant.0 j) (here j) (get_or s (here j) 0))
          ∙ overwrite-more out 0 (part s 0 i) i (get_or s (0 + i) 0) (part_length s 0 i (omega arith)) (omega arith)
          ∙ ap (overwrite out 0) (sym (part-more s 0 i (omega arith))),
      simp length-set (omega arith),
    )

pub returns : goal.returns
returns c =
    let all : c.loop-i.i ≡ c.args.from = omega arith in
    c.loop-i.invariant.0 ∙ ap (λ (i : ℕ). overwrite c.args.out.now 0 (part c.args.s.now 0 i)) all
