-- `certificate_bytes::write_head` meets its contract: the command and three numbers.
-- Assumes nothing.
use Rattle.std.proofs.Common.{ap, ◌∙◌}
use Rattle.model.specs.Bytes.{bytes, overwrite}
use Rattle.certificate_bytes.proofs.Pieces.{head-written}
use Rattle.certificate_bytes.proofs.write_head.Goals as goal

pub returns : goal.returns
returns c =
    c.write_u16.ensures
    ∙ ap (λ m. overwrite m 9 (bytes 2 c.args.n)) (c.write_u32-2.ensures ∙ ap (λ m. overwrite m 5 (bytes 4 c.args.fraction.q)) c.write_u32.ensures)
    ∙ head-written c.args.out.now c.args.fraction.p c.args.fraction.q c.args.n c.requires
