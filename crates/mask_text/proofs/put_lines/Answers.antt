-- `mask_text::put_lines` meets its contract: the lines of the numbers gone through are written.
-- Assumes nothing.
use mathlib.Core.Path.{ap}
use mathlib.Core.List.{List}
use Prim.Native.Nat.{ℕ, ◌+◌, ◌≤◌, ◌<◌}
use native.Mathlib.Omega.{arith}
use lib.ListN.{length, get_or, take, length-append}
use lib.Seq.{take_all}
use Rattle.model.specs.Lists.{flat_map}
use Rattle.model.specs.Text.{number_line}
use Rattle.words.proofs.Put.{put-none, put_then, put_as}
use Rattle.mask_text.proofs.Listed.{lines_more, lines_first}
use Rattle.mask_text.proofs.put_lines.Goals as goal

-- the lines before i and that of i have room
room : (table : List ℕ) (i size : ℕ) → i < length table → length (flat_map number_line table) ≤ size →
    length (flat_map number_line (take i table)) + length (number_line (get_or table i 0)) ≤ size
room table i size h fits =
    omega (
      arith,
      lines_first number_line table (i + 1),
      ap length (lines_more number_line table i h),
      length-append (flat_map number_line (take i table)) (number_line (get_or table i 0)),
    )

pub loop-m-init : goal.loop-m-init
loop-m-init c = put-none _ 0

pub put_number_line-end-requires : goal.put_number_line-end-requires
put_number_line-end-requires c =
    omega (
      arith,
      ap (λ (n : ℕ). length (number_line n)) c.from.ensures,
      c.loop-m.auto.out,
      c.loop-m.invariant.next,
      room c.args.table.now c.loop-m.m-index _ (omega arith) c.requires,
    )

pub loop-m-preserved : goal.loop-m-preserved
loop-m-preserved c =
    let table = c.args.table.now in
    let below : c.loop-m.m-index < length table = omega arith in
    let more = put_as (ap number_line c.from.ensures) c.put_number_line-end.ensures in
    let fits = room table c.loop-m.m-index _ below c.requires in
    put_as (lines_more number_line table c.loop-m.m-index below) (put_then c.loop-m.invariant more (omega (arith, fits, more.next, c.loop-m.invariant.next)))

pub returns : goal.returns
returns c =
    put_as (ap (flat_map number_line) (take_all c.loop-m.m-index c.args.table.now (omega arith))) c.loop-m.invariant
