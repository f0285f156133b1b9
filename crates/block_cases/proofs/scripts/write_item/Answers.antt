-- `block_cases::scripts::write_item` meets its contract: the line of the last write fits its room.
-- Assumes nothing.
use mathlib.Core.Path.{ap}
use Prim.Native.Nat.{ℕ}
use native.Mathlib.Omega.{arith}
use lib.ListN.{length}
use borrow.Author.Rules.{elem_Fits}
use mir.Syntax.{w8}
use Rattle.model.specs.Text.{numbers_line}
use Rattle.text.proofs.Put.{put-inside}
use Rattle.block_cases.proofs.Moves.{script_line}
use Rattle.block_cases.proofs.scripts.write_item.Goals as goal

pub put_line-n-requires : goal.put_line-n-requires
put_line-n-requires c =
    let k = c.registers-bytes in
    let w = c.run_item-told in
    omega (
      arith,
      script_line _ _ _ _ k.result w.ensures (λ i. (elem_Fits w8 w8 k.result _ i k.type_inv.1.1 tt).fits) k.type_inv.1.0.1,
      ap (λ (n : ℕ). length (numbers_line n k.result)) c.number_of.ensures,
    )

pub slice_bounds-line-end : goal.slice_bounds-line-end
slice_bounds-line-end c = (put-inside _ _ _ _ c.put_line-n.ensures).0

pub slice_bounds-write_all-end : goal.slice_bounds-write_all-end
slice_bounds-write_all-end c = (put-inside _ _ _ _ c.put_line-n.ensures).1
