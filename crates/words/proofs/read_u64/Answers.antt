-- `words::read_u64` meets its contract: std's number of eight bytes is the model's. Assumes nothing.
use mathlib.Core.Path.{ap, ◌∙◌}
use lib.ListN.{length}
use Rattle.model.specs.Bytes.{number}
use Rattle.words.proofs.Memory.{part_length}
use Rattle.words.proofs.Std.{be_8}
use Rattle.words.proofs.read_u64.Goals as goal

pub returns : goal.returns
returns c =
    let a = c.args in
    c.from_be_bytes.ensures ∙ be_8 c.chunk.result (ap length c.chunk.ensures ∙ part_length a.s.now a.at 8 c.requires) ∙ ap number c.chunk.ensures
