-- `host::read_full` meets its contract: a read puts its bytes behind those that stand there.
-- Assumes nothing.
use Rattle.std.proofs.Common.{◌≡◌, ◌≤◌, ◌+◌, ◌-◌, ℕ, List, ◌++◌, ap, arith, length, length-take-le, rules, subst, sym, take, ◌∙◌}
use Rattle.std.specs.declared.option.Option.{Option}
use lib.Seq.{take-append-add, take-append-le}
use borrow.Rule.Slice.PartMut.{put_mid, post_of}
use Rattle.std.proofs.KnownBytes.{Consumes-trans}
use Rattle.std.specs.Io.KnownBytes.{Consumes}
use Rattle.host.proofs.read_full.Goals as goal

-- where a part was written, what stands up to a place in it is what was before the part, and the part's own first bytes
front-put : (a k n : ℕ) (xs ys : List ℕ) → a ≤ length xs → n ≤ length ys → take (a + n) (put_mid a k xs ys) ≡ take a xs ++ take n ys
front-put a k n xs ys within fits =
    ap (λ (m : ℕ). take (m + n) (put_mid a k xs ys)) (sym (length-take-le a xs within))
    ∙ take-append-add (take a xs) (ys ++ post_of a k xs) n
    ∙ ap (λ (l : List ℕ). take a xs ++ l) (take-append-le n ys (post_of a k xs) fits)

-- a read's bytes behind those that were consumed before it
consumed-more : (before now after : Option (List ℕ)) (a k n m : ℕ) (xs ys : List ℕ) → a ≤ length xs → n ≤ length ys → m ≡ a + n
    → Consumes before now (take a xs) → Consumes now after (take n ys) → Consumes before after (take m (put_mid a k xs ys))
consumed-more before now after a k n m xs ys within fits same first second =
    subst (Consumes before after) (sym (ap (λ (i : ℕ). take i (put_mid a k xs ys)) same ∙ front-put a k n xs ys within fits))
    (Consumes-trans before now after (take a xs) (take n ys) first second)

pub loop-done-preserved : goal.loop-done-preserved
loop-done-preserved g c =
    let from = c.loop-done.done in
    let before = c.loop-done.invariant in
    let read = c.in-Ok.ensures in
    (search rules, consumed-more _ _ _ from (length c.loop-done.buf - from) c.in-Ok.n _ c.loop-done.buf c.read.new.buf before.0 read.bound.0 (omega arith) before.1 read.bytes.0)
