-- `gap::table` meets its contract: each turn writes the entry of one pair.
-- Assumes nothing.
use mathlib.Core.Path.{◌≡◌, sym, ap, ◌∙◌}
use mathlib.Core.List.{List}
use Prim.Native.Nat.{ℕ}
use native.Mathlib.Omega.{arith}
use lib.ListN.{length, length-replicate}
use Rattle.words.proofs.Memory.{overwrite-none}
use Rattle.words.proofs.Tables.{written-more, written_all}
use Rattle.plan.specs.View.{pair_count, empty_table}
use Rattle.gap.specs.Automaton.{pair_entry}
use Rattle.gap.proofs.table.Goals as goal

-- the table has an entry for each pair
size : {l : List ℕ} → l ≡ empty_table → length l ≡ pair_count
size e = ap length e ∙ length-replicate {A = ℕ} pair_count 0

pub loop-k-init : goal.loop-k-init
loop-k-init c = sym (overwrite-none _ 0)

pub loop-k-preserved : goal.loop-k-preserved
loop-k-preserved c =
    let k = c.loop-k.k in
    let t = c.empty_table-next in
    written-more (pair_entry c.args.gap) 0 t.result 0 k k k (omega arith) (omega arith) (omega (arith, size t.ensures)) c.entry.ensures c.loop-k.invariant

pub returns : goal.returns
returns c =
    let t = c.empty_table-next in
    written_all (pair_entry c.args.gap) 0 t.result c.loop-k.k pair_count (omega arith) (sym (size t.ensures)) c.loop-k.invariant
