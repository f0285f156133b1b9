-- `widen::masks_at` meets its contract: the masks so far are packed.
-- Assumes nothing.
use Rattle.std.proofs.Common.{arith, ap, ◌∙◌, ◌+◌, ◌*◌}
use lib.Seq.{take_all}
use Rattle.words.specs.Packed.{field_base, packed, unpacked}
use Rattle.words.proofs.Numbers.{AreBytes}
use Rattle.widen.proofs.Masks.{packed_none, packed_more, packed_fits, mask_bytes, four_masks, mask_small, masks-packed}
use Rattle.widen.proofs.masks_at.Goals as goal

pub loop-mask-init : goal.loop-mask-init
loop-mask-init c = packed_none

pub overflow_mul-masks : goal.overflow_mul-masks
overflow_mul-masks c =
    let bs = c.args.s.now in
    let at = c.args.at in
    let small : AreBytes bs = λ i. (c.type_inv.s i).fits in
    let fits = packed_fits (mask_bytes bs at small c.requires) (mask_small bs at small c.requires) c.loop-mask.mask-index c.loop-mask-test.true (four_masks bs at small c.requires) in
    omega (arith, c.loop-mask.invariant, fits)

pub overflow_add-masks : goal.overflow_add-masks
overflow_add-masks c =
    let bs = c.args.s.now in
    let at = c.args.at in
    let small : AreBytes bs = λ i. (c.type_inv.s i).fits in
    let fits = packed_fits (mask_bytes bs at small c.requires) (mask_small bs at small c.requires) c.loop-mask.mask-index c.loop-mask-test.true (four_masks bs at small c.requires) in
    omega (arith, c.loop-mask.invariant, c.from.ensures, fits)

pub loop-mask-preserved : goal.loop-mask-preserved
loop-mask-preserved c =
    let bs = c.args.s.now in
    let at = c.args.at in
    let small : AreBytes bs = λ i. (c.type_inv.s i).fits in
    (λ j. c.loop-mask.invariant j * field_base + c.from.ensures j)
    ∙ packed_more (mask_bytes bs at small c.requires) (mask_small bs at small c.requires) c.loop-mask.mask-index c.loop-mask-test.true

pub returns : goal.returns
returns c =
    let bs = c.args.s.now in
    let at = c.args.at in
    let small : AreBytes bs = λ i. (c.type_inv.s i).fits in
    let masks = mask_bytes bs at small c.requires in
    ap unpacked (c.loop-mask.invariant ∙ ap packed (take_all c.loop-mask.mask-index masks c.loop-mask-test.false)) ∙ masks-packed bs at small c.requires
