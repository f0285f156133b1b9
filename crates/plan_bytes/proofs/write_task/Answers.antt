-- `plan_bytes::write_task` meets its contract: the value is one byte, or two with the first the more significant.
-- Assumes nothing.
use mathlib.Core.Path.{◌≡◌, sym, ap, ◌∙◌}
use mathlib.Core.List.{List, [], ◌∷◌}
use Prim.Native.Nat.{ℕ, ◌/◌, ◌%◌, ◌<◌}
use native.Mathlib.Nat.{mod-eq_of_lt}
use native.Mathlib.Omega.{arith}
use lib.ListN.{length, length-set}
use Rattle.model.specs.Bytes.{bytes}
use Rattle.words.proofs.Put.{put_byte, put_then, put_as}
use Rattle.plan.proofs.Widths.{two_else}
use Rattle.plan_bytes.proofs.write_task.Goals as goal

-- a value's bytes, by the width
one_byte : (w v : ℕ) → w ≡ 1 → v % 256 ∷ [] ≡ bytes w v
unfolding bytes
one_byte w v e = ap (λ (k : ℕ). bytes k v) (sym e)

two_bytes : (w v : ℕ) → w ≡ 2 → v < 65536 → v / 256 ∷ v % 256 ∷ [] ≡ bytes w v
unfolding bytes
two_bytes w v e h =
    let high : v / 256 < 256 = omega arith in
    ap (λ (k : ℕ). k ∷ v % 256 ∷ []) (sym (mod-eq_of_lt high)) ∙ ap (λ (k : ℕ). bytes k v) (sym e)

pub returns-then-edition-eq1 : goal.returns-then-edition-eq1
returns-then-edition-eq1 c =
    put_as (ap (λ (l : List ℕ). 0x01 ∷ c.args.t.work ∷ c.args.t.window ∷ l) (one_byte _ c.args.t.value c.if-edition-eq1.true)) c.write_four.ensures

pub write_four-end-requires : goal.write_four-end-requires
write_four-end-requires c =
    omega (arith, c.requires.1, two_else c.requires.0 c.if-edition-eq1.false)

pub bounds-out-end : goal.bounds-out-end
bounds-out-end c =
    omega (arith, c.requires.1, c.write_four-end.ensures.next, c.write_four-end.auto.out, two_else c.requires.0 c.if-edition-eq1.false)

pub shape_of-out : goal.shape_of-out
shape_of-out c = simp length-set c.write_four-end.auto.out

pub returns : goal.returns
returns c =
    let t = c.args.t in
    let wide = two_else c.requires.0 c.if-edition-eq1.false in
    let inside : c.write_four-end.result < length c.write_four-end.new.out = omega (arith, c.requires.1, c.write_four-end.ensures.next, c.write_four-end.auto.out, wide) in
    let end = put_byte c.write_four-end.new.out c.write_four-end.result (t.value % 256) inside in
    put_as (ap (λ (l : List ℕ). 0x01 ∷ t.work ∷ t.window ∷ l) (two_bytes _ t.value wide (omega arith)))
    (put_then c.write_four-end.ensures end (omega (arith, inside, c.write_four-end.auto.out)))
