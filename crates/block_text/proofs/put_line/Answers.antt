-- The line is the refusal and then the bytes, sixteen of them.
use mathlib.Core.Path.{◌≡◌, sym, ap, ◌∙◌}
use mathlib.Core.List.{List, ◌++◌}
use Prim.Native.Nat.{ℕ, ◌+◌, ◌≤◌, ◌<◌}
use native.Mathlib.Omega.{arith}
use lib.ListN.{length, get_or, length-append}
use Rattle.model.specs.Bytes.{Put}
use Rattle.model.specs.Text.{field, number_line, numbers_line}
use Rattle.words.proofs.Put.{put_then, put_as}
use Rattle.block_text.proofs.Ahead.{Ahead, ahead-start, ahead_as, ahead-next}
use Rattle.block_text.proofs.Line.{line_from, line-next, line-last}
use Rattle.block_text.proofs.put_line.Goals as goal

module _ (refusal : ℕ) (bytes : List ℕ) (size : length bytes ≡ 16) where
  first : numbers_line refusal bytes ≡ field refusal ++ line_from bytes 0
  first = line-next refusal bytes 0 (omega (arith, size))

  both : length (numbers_line refusal bytes) ≡ length (field refusal) + length (line_from bytes 0)
  both = ap length first ∙ length-append (field refusal) (line_from bytes 0)

  more : (i : ℕ) → i + 1 < 16 → line_from bytes i ≡ field (get_or bytes i 0) ++ line_from bytes (i + 1)
  more i h = line-next (get_or bytes i 0) bytes (i + 1) (omega (arith, h, size))

  last : (i : ℕ) → 16 ≤ i + 1 → line_from bytes i ≡ number_line (get_or bytes i 0)
  last i h = line-last bytes i (omega (arith, h, size))

  -- what is left in the loop has room
  room : (i : ℕ) → {before out now : List ℕ} {at start end : ℕ} → at + length (numbers_line refusal bytes) ≤ length before →
      Put before out at (field refusal) start → length out ≡ length before → Ahead out start (line_from bytes 0) now end (line_from bytes i) →
      end + length (line_from bytes i) ≤ length now
  room i h p same a = omega (arith, h, both, p.next, same, a.next, a.size)

pub put_field-end-requires : goal.put_field-end-requires
put_field-end-requires c = omega (arith, c.requires, both c.args.refusal c.args.bytes (omega (arith, c.well_formed)))

pub loop-i-init : goal.loop-i-init
loop-i-init c = ahead-start _ _ _

pub put_byte-end-requires : goal.put_byte-end-requires
put_byte-end-requires c =
    let refusal = c.args.refusal in
    let bytes = c.args.bytes in
    let i = c.loop-i.i in
    let size : length bytes ≡ 16 = omega (arith, c.well_formed) in
    let inside : i + 1 < 16 = omega (arith, c.loop-i-test.true) in
    omega (
      arith,
      room refusal bytes size i c.requires c.put_field-end.ensures c.put_field-end.auto.out c.loop-i.invariant,
      ap length (more refusal bytes size i inside),
      length-append (field (get_or bytes i 0)) (line_from bytes (i + 1)),
    )

pub loop-i-preserved : goal.loop-i-preserved
loop-i-preserved c =
    let size : length c.args.bytes ≡ 16 = omega (arith, c.well_formed) in
    let inside : c.loop-i.i + 1 < 16 = omega (arith, c.loop-i-test.true) in
    ahead-next c.put_byte-end.ensures c.put_byte-end.auto.out
    (ahead_as (more c.args.refusal c.args.bytes size c.loop-i.i inside) c.loop-i.invariant)

-- what is left after the loop
ended : (refusal : ℕ) (bytes : List ℕ) → length bytes ≡ 16 → (i : ℕ) → i ≡ 15 → line_from bytes i ≡ number_line (get_or bytes 15 0)
ended refusal bytes size i e = last refusal bytes size i (omega arith) ∙ ap (λ (k : ℕ). number_line (get_or bytes k 0)) e

pub put_last_byte-requires : goal.put_last_byte-requires
put_last_byte-requires c =
    let refusal = c.args.refusal in
    let size : length c.args.bytes ≡ 16 = omega (arith, c.well_formed) in
    let end : c.loop-i.i ≡ 15 = omega (arith, c.loop-i-test.false, c.loop-i.auto) in
    omega (
      arith,
      room refusal c.args.bytes size c.loop-i.i c.requires c.put_field-end.ensures c.put_field-end.auto.out c.loop-i.invariant,
      ap length (ended refusal c.args.bytes size c.loop-i.i end),
    )

pub returns : goal.returns
returns c =
    let refusal = c.args.refusal in
    let bytes = c.args.bytes in
    let size : length bytes ≡ 16 = omega (arith, c.well_formed) in
    let end : c.loop-i.i ≡ 15 = omega (arith, c.loop-i-test.false, c.loop-i.auto) in
    let rest = ended refusal bytes size c.loop-i.i end in
    let start = c.put_field-end.ensures in
    let left = room refusal bytes size c.loop-i.i c.requires start c.put_field-end.auto.out c.loop-i.invariant in
    let place : c.put_last_byte.result ≤ length c.args.out.now =
    omega (arith, c.put_last_byte.ensures.next, ap length rest, left, c.loop-i.invariant.size, c.put_field-end.auto.out) in
    let later = c.loop-i.invariant.whole _ _ (omega (arith, place, c.put_field-end.auto.out)) (put_as (sym rest) c.put_last_byte.ensures) in
    put_as (sym (first refusal bytes size)) (put_then start later place)
