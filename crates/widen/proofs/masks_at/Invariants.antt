-- `widen::masks_at` meets its contract: the masks so far are packed.
-- Assumes nothing.
use Rattle.std.proofs.Common.{◌≡◌, take}
use Rattle.words.specs.Packed.{packed}
use Rattle.widen.proofs.masks_at.Given as goal

abbrev pub invariant-loop-mask : goal.invariant-loop-mask
invariant-loop-mask l = l.masks ≡ packed (take l.mask-index l.mask-items)
