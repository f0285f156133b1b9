-- `plan::number_at` meets its contract: one byte, or two with the first the more significant.
-- Assumes nothing.
use mathlib.Core.Path.{◌≡◌, sym, ap, ◌∙◌}
use mathlib.Core.List.{List, map}
use Prim.Native.Nat.{ℕ, suc, ◌+◌, ◌*◌}
use native.Mathlib.Numerals.{add-one}
use native.Mathlib.Omega.{arith}
use lib.ListN.{get_or}
use Rattle.model.specs.Bytes.{number}
use Rattle.model.specs.Lists.{up_from}
use Rattle.plan.proofs.Widths.{two_else}
use Rattle.plan.proofs.number_at.Goals as goal

module _ (s : List ℕ) (at : ℕ) where
  abbrev read : ℕ → ℕ
  read w = number (map (λ i. get_or s i 0) (up_from at w))

  one_byte : (w v : ℕ) → w ≡ 1 → v ≡ get_or s at 0 → v ≡ read w
  unfolding number
  one_byte w v e h = let k : v ≡ read 1 = omega arith in k ∙ ap read (sym e)

  two_bytes : (w a b : ℕ) → w ≡ 2 → a ≡ get_or s at 0 → b ≡ get_or s (at + 1) 0 → a * 256 + b ≡ read w
  unfolding number
  two_bytes w a b e h k =
      let next : b ≡ get_or s (suc at) 0 = k ∙ ap (λ (i : ℕ). get_or s i 0) (add-one at) in
      let both : a * 256 + b ≡ read 2 = omega arith in
      both ∙ ap read (sym e)

pub returns-then-width-eq1 : goal.returns-then-width-eq1
returns-then-width-eq1 c =
    let a = c.args in
    one_byte a.s.now a.at a.width _ c.if-width-eq1.true c.byte_at-first.ensures

pub returns : goal.returns
returns c =
    let a = c.args in
    two_bytes a.s.now a.at a.width _ _ (two_else c.requires.1 c.if-width-eq1.false) c.byte_at-first.ensures c.byte_at-second.ensures
