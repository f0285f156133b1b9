-- `block_cases::scripts::item_total` meets its contract: the writes of an item that is whole, so many times over.
-- Assumes nothing.
use mathlib.Core.Path.{sym, ap₂, ◌∙◌}
use Prim.Native.Nat.{◌*◌}
use native.Mathlib.Omega.{arith}
use Rattle.block_cases.proofs.Items.{product_small, total_short, total_whole}
use Rattle.block_cases.proofs.scripts.item_total.Goals as goal

pub returns-then-item-count : goal.returns-then-item-count
returns-then-item-count c = sym (total_short c.args.item.now (omega arith))

pub overflow_mul-result : goal.overflow_mul-result
overflow_mul-result c = record { fits = product_small (omega arith) c.requires.1 }

pub returns : goal.returns
returns c =
    ap₂ ◌*◌ c.read_u32.ensures c.requires.0 ∙ sym (total_whole c.args.item.now (omega arith))
