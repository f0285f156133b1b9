-- The lines of writes to the register block.
use Rattle.std.specs.Prelude.{List, ℕ, ◌*◌, ◌/◌}
use Rattle.io.specs.Counts.{IsPrefixLen}
use Rattle.model.specs.Bytes.{Put}
use Rattle.model.specs.Controller.{after_writes, writes_in}
use Rattle.model.specs.Plan.{Plan}
use Rattle.model.specs.Text.{write_lines}
use Rattle.policy.specs.View.{tasks_in}
use Rattle.policy.specs.declared.Rules.{Rules}
use Rattle.controller.specs.Block.{block_of}
use Rattle.controller.specs.View.{PartOf, Becomes}
use Rattle.controller.specs.declared.part.Block.{Block}
use Rattle.block_text.specs.declared.Lines.{Lines}

-- the most that a line takes: the refusal with its space 3, and each of sixteen registers 4
abbrev pub line_room : ℕ
line_room = 67

-- how many bytes of writes are read at a time, two for each write, and the most that their text takes
abbrev pub part_bytes : ℕ
part_bytes = 2048

abbrev pub text_room : ℕ
text_room = line_room * (part_bytes / 2)

-- the lines of writes from a block on stand in front of the output, and the block is the one after them
pub record Lined (before after : List ℕ) (r : Rules) (next : List ℕ) (b : Block) (writes : List ℕ) (l : Lines) : Type 0 where
  pub text : (P : Plan) → PartOf P r next → Put before after 0 (write_lines P (block_of (tasks_in r) b) (writes_in writes)) l.end
  pub block : Becomes r next (λ P. after_writes P (block_of (tasks_in r) b) (writes_in writes)) l.block
  pub inside : IsPrefixLen l.end after
