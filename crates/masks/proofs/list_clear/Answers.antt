-- `masks::list_clear` meets its contract: so far the clear ones of the masks gone through are listed.
-- Assumes nothing.
use mathlib.Core.Path.{◌≡◌, sym, ap, ◌∙◌}
use mathlib.Core.List.{List, [], ◌++◌}
use Prim.Native.Nat.{ℕ, ◌+◌, ◌-◌, ◌<◌}
use native.Mathlib.Omega.{arith}
use lib.ListN.{get_or, drop}
use lib.Seq.{get_or-take, get_or-drop}
use Rattle.model.specs.Lists.{cons_if}
use Rattle.model.specs.Masks.{mask_table}
use Rattle.model.proofs.Tests.{one-le}
use Rattle.words.proofs.Memory.{part_length}
use Rattle.masks.specs.Clear.{clear_of, clear_in}
use Rattle.masks.proofs.Clear.{clear_none, clear_more, lists-none, lists-more, lists-same}
use Rattle.masks.proofs.list_clear.Goals as goal

pub loop-mask-init : goal.loop-mask-init
loop-mask-init c =
    let a = c.args in
    (omega arith, rw (clear_none a.pattern a.at (a.at + 0) (omega arith)) lists-none)

pub loop-mask-preserved : goal.loop-mask-preserved
loop-mask-preserved c =
    let l = c.loop-mask in
    let a = c.args in
    let k = a.at + l.mask-index in
    let m = c.from-m.result in
    let next : k + 1 ≡ a.at + (l.mask-index + 1) = omega arith in
    let below : l.mask-index < a.end - a.at = omega (arith, part_length a.table.now a.at (a.end - a.at) (omega arith)) in
    let is : m ≡ get_or mask_table k 0 =
    c.from-m.ensures ∙ get_or-take (a.end - a.at) (drop a.at a.table.now) l.mask-index 0 below ∙ get_or-drop a.at a.table.now l.mask-index 0
    ∙ ap (λ (t : List ℕ). get_or t k 0) c.requires.0 in (
      omega (arith, c.if_clear-next.ensures, one-le (clear_of a.pattern m)),
      lists-more a.pattern m c.if_clear-next.result c.if_clear-next.ensures
          (ap (clear_in a.pattern a.at) (sym next)
          ∙ clear_more a.pattern a.at k (omega arith) (omega arith)
          ∙ ap (λ (j : ℕ). clear_in a.pattern a.at k ++ cons_if (clear_of a.pattern j) j []) (sym is))
          c.requires.3 (omega arith) l.invariant.1,
    )

pub returns : goal.returns
returns c =
    let l = c.loop-mask in
    let a = c.args in
    let e : a.at + l.mask-index ≡ a.end = omega (arith, part_length a.table.now a.at (a.end - a.at) (omega arith)) in
    lists-same (ap (clear_in a.pattern a.at) e) l.invariant.1
