-- `discovery::node_of` meets its contract: a copy over the whole of the cells, and two bytes. Assumes nothing.
use mathlib.Core.Path.{◌∙◌}
use native.Mathlib.Omega.{arith}
use lib.ListN.{get_or}
use Rattle.model.specs.Bytes.{part}
use Rattle.words.proofs.Memory.{overwrite-all, part_length}
use Rattle.policy.specs.View.{cell_count}
use Rattle.discovery.specs.Discovery.{state_at}
use Rattle.discovery.proofs.node_of.Goals as goal

pub returns : goal.returns
returns c =
    let row = c.args.row.now in
    let cells =
    c.copy.ensures ∙ overwrite-all _ (part row 0 cell_count) (part_length row 0 cell_count (omega (arith, c.told-row))) in
    λ i. record { cells = cells i; taken = c.read_u16-taken.ensures i; state = get_or row state_at 0 }
