-- `certificate_bytes::write_end` meets its contract: a store writes one byte.
-- Assumes nothing.
use Rattle.words.proofs.Memory.{overwrite-one}
use Rattle.certificate_bytes.proofs.write_end.Goals as goal

pub returns : goal.returns
returns c = overwrite-one _ _ _ c.requires
