-- `mask_text::list_group` meets its contract: the masks below m that have c ones are listed.
-- Assumes nothing.
use mathlib.Core.Path.{◌≡◌, ap}
use mathlib.Core.List.{[], ◌∷◌}
use Prim.Native.Nat.{ℕ, ◌+◌, ◌≤◌}
use native.Mathlib.Omega.{arith}
use lib.Dec.{eqb}
use lib.ListN.{length, length-append}
use Rattle.model.specs.Limits.{max_window}
use Rattle.model.specs.Lists.{keep, up_from, ones}
use Rattle.model.specs.Masks.{mask_count, group}
use Rattle.words.proofs.Put.{put-none, put_then, put_as}
use Rattle.mask_text.proofs.Listed.{keep-more, keep-first}
use Rattle.mask_text.proofs.list_group.Goals as goal

-- the masks below m and m itself have room
room : (c m at size : ℕ) → m + 1 ≤ mask_count → at + length (group c) ≤ size →
    at + length (keep (λ k. eqb (ones max_window k) c) (up_from 0 m)) + length (keep (λ k. eqb (ones max_window k) c) (m ∷ [])) ≤ size
unfolding group
room c m at size h fits =
    omega (
      arith,
      keep-first (λ k. eqb (ones max_window k) c) (m + 1) mask_count h,
      ap length (keep-more (λ k. eqb (ones max_window k) c) m),
      length-append (keep (λ k. eqb (ones max_window k) c) (up_from 0 m)) (keep (λ k. eqb (ones max_window k) c) (m ∷ [])),
    )

pub loop-m-init : goal.loop-m-init
loop-m-init c = put-none _ _

pub list_mask-end-requires : goal.list_mask-end-requires
list_mask-end-requires c =
    (omega arith, omega (arith, c.loop-m.auto.table, c.loop-m.invariant.next, room c.args.c c.loop-m.m c.args.at _ (omega arith) c.requires))

pub loop-m-preserved : goal.loop-m-preserved
loop-m-preserved c =
    let more = c.list_mask-end.ensures in
    let fits = room c.args.c c.loop-m.m c.args.at _ (omega arith) c.requires in
    put_as (keep-more (λ k. eqb (ones max_window k) c.args.c) c.loop-m.m) (put_then c.loop-m.invariant more (omega (arith, fits, more.next, c.loop-m.invariant.next)))

pub returns : goal.returns
unfolding group
returns c =
    let e : c.loop-m.m ≡ mask_count = omega arith in
    rw e at c.loop-m.invariant
