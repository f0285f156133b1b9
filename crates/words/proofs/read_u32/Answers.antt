-- `words::read_u32` meets its contract: std's number of four bytes is the model's. Assumes nothing.
use mathlib.Core.Path.{ap, ◌∙◌}
use lib.ListN.{length}
use Rattle.model.specs.Bytes.{number}
use Rattle.words.proofs.Memory.{part_length}
use Rattle.words.proofs.Std.{be_4}
use Rattle.words.proofs.read_u32.Goals as goal

pub returns : goal.returns
returns c =
    let a = c.args in
    c.from_be_bytes.ensures ∙ be_4 c.chunk.result (ap length c.chunk.ensures ∙ part_length a.s.now a.at 4 c.requires) ∙ ap number c.chunk.ensures
