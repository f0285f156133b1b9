-- Inside the loop the next write stands in the item.
use native.Mathlib.Omega.{arith}
use Rattle.block_cases.specs.Script.{item_total}
use Rattle.block_cases.proofs.Items.{standing}
use Rattle.block_cases.proofs.Moves.{scripted_none, scripted_more, scripted_all}
use Rattle.block_cases.proofs.scripts.run_item.Goals as goal

pub loop-k-init : goal.loop-k-init
loop-k-init c = scripted_none c.args.item.now c.args.controller.now

pub nonzero_rem-at : goal.nonzero_rem-at
nonzero_rem-at c = (standing c.args.item.now _ _ _ c.item_count-count.ensures.value c.item_total-total.ensures c.loop-k-test.true).some

pub overflow_mul-at : goal.overflow_mul-at
overflow_mul-at c =
    omega (arith, (standing c.args.item.now _ _ _ c.item_count-count.ensures.value c.item_total-total.ensures c.loop-k-test.true).inside)

pub overflow_add-at : goal.overflow_add-at
overflow_add-at c =
    omega (arith, (standing c.args.item.now _ _ _ c.item_count-count.ensures.value c.item_total-total.ensures c.loop-k-test.true).inside)

pub read_u64-byte-requires : goal.read_u64-byte-requires
read_u64-byte-requires c =
    omega (arith, (standing c.args.item.now _ _ _ c.item_count-count.ensures.value c.item_total-total.ensures c.loop-k-test.true).inside)

pub overflow_add-at-in-loop-k : goal.overflow_add-at-in-loop-k
overflow_add-at-in-loop-k c =
    omega (arith, (standing c.args.item.now _ _ _ c.item_count-count.ensures.value c.item_total-total.ensures c.loop-k-test.true).inside)

pub bounds-item-at : goal.bounds-item-at
bounds-item-at c =
    omega (arith, (standing c.args.item.now _ _ _ c.item_count-count.ensures.value c.item_total-total.ensures c.loop-k-test.true).inside)

pub loop-k-preserved : goal.loop-k-preserved
loop-k-preserved c =
    let item = c.args.item.now in
    let next = standing item _ _ _ c.item_count-count.ensures.value c.item_total-total.ensures c.loop-k-test.true in
    scripted_more item _ _ _ _ _ _ _ (next.read c.read_u64-byte.result c.read_u64-byte.ensures) c.loop-k.invariant c.write-told.ensures

pub returns : goal.returns
returns c =
    let item = c.args.item.now in
    scripted_all item _ c.loop-k.k (item_total item) _ _ (omega (arith, c.item_total-total.ensures)) c.loop-k.invariant
