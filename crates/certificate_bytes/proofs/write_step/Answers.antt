-- `certificate_bytes::write_step` meets its contract: two stores, and the masks after them.
-- Assumes nothing.
use Rattle.std.proofs.Common.{◌∙◌}
use Rattle.certificate_bytes.proofs.Pieces.{step-written}
use Rattle.certificate_bytes.proofs.write_step.Goals as goal

pub returns : goal.returns
returns c = c.write_u64.ensures ∙ step-written c.args.out.now c.args.at c.args.label c.args.masks c.ranges.masks.fits c.requires
