-- `block_cases::scripts::item_count` meets its contract: past the end of an item that is too short stands 0.
-- Assumes nothing.
use mathlib.Core.Path.{sym}
use native.Mathlib.Omega.{arith}
use lib.ListN.{get_or-eq_default}
use Rattle.block_cases.proofs.scripts.item_count.Goals as goal

pub returns-then-item-lt-HEAD : goal.returns-then-item-lt-HEAD
returns-then-item-lt-HEAD c = record { value = sym (get_or-eq_default c.args.item.now 0 (omega arith)); upper_bound = omega arith }
