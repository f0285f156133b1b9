-- `tracer::put_row` meets its contract: a byte, the two bytes after it, and the byte after these.
-- Assumes nothing.
use mathlib.Core.Path.{◌≡◌, ap, ◌∙◌}
use mathlib.Core.List.{List, ◌∷◌}
use Prim.Native.Nat.{ℕ, ◌+◌}
use native.Mathlib.Omega.{arith}
use lib.ListN.{length, set, length-set}
use Rattle.model.specs.Bytes.{bytes}
use Rattle.words.proofs.Memory.{overwrite-cons, overwrite-more}
use Rattle.words.proofs.Numbers.{bytes-length}
use Rattle.tracer.proofs.put_row.Goals as goal

pub write_u16-requires : goal.write_u16-requires
write_u16-requires c = simp length-set (omega arith)

pub bounds-out-at-2 : goal.bounds-out-at-2
bounds-out-at-2 c = omega (arith, c.write_u16.auto.s, length-set c.args.out.now c.args.at c.args.row.ran)

pub shape_of-out : goal.shape_of-out
shape_of-out c = simp length-set (c.write_u16.auto.s ∙ length-set c.args.out.now c.args.at c.args.row.ran)

pub returns : goal.returns
returns c =
    let a = c.args in
    let two = bytes-length 2 a.row.gain in
    let three : length (a.row.ran ∷ bytes 2 a.row.gain) ≡ 3 = omega (arith, two) in
    ap (λ (l : List ℕ). set l (a.at + 3) a.row.cut) (c.write_u16.ensures ∙ overwrite-cons a.out.now a.at a.row.ran (bytes 2 a.row.gain) (omega (arith, c.requires, two)))
    ∙ overwrite-more a.out.now a.at (a.row.ran ∷ bytes 2 a.row.gain) 3 a.row.cut three (omega (arith, c.requires))
