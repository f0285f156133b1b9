-- `discovery::row_of` meets its contract: three writes, one behind the other. Assumes nothing.
use mathlib.Core.Path.{refl, ap, ◌∙◌}
use mathlib.Core.List.{List}
use Prim.Native.Nat.{ℕ}
use native.Mathlib.Omega.{arith}
use lib.ListN.{set}
use Rattle.model.specs.Bytes.{bytes, overwrite}
use Rattle.discovery.specs.Discovery.{pattern_bytes, taken_at, state_at}
use Rattle.discovery.proofs.Rows.{row_written}
use Rattle.discovery.proofs.row_of.Goals as goal

pub returns : goal.returns
returns c =
    let u = c.args.node.now in
    ap (λ (l : List ℕ). set l state_at u.state) c.write_u16.ensures
    ∙ ap (λ (l : List ℕ). set (overwrite l taken_at (bytes pattern_bytes u.taken)) state_at u.state) c.copy.ensures
    ∙ row_written _ u.cells u.taken u.state refl (omega arith)
