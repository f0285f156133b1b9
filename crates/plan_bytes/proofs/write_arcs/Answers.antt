-- `plan_bytes::write_arcs` meets its contract: the arcs of the pairs before k are written.
-- Assumes nothing.
use mathlib.Core.Path.{◌≡◌}
use Prim.Native.Nat.{◌+◌, ◌*◌, ◌≤◌}
use native.Mathlib.Omega.{arith}
use lib.ListN.{get_or}
use Rattle.plan.specs.View.{pair_count, arcs_in}
use Rattle.plan_bytes.specs.Sizes.{arc_size}
use Rattle.words.proofs.Put.{put-none}
use Rattle.plan_bytes.proofs.Pieces.{pair_length, arcs-more}
use Rattle.plan_bytes.proofs.write_arcs.Goals as goal

pub loop-k-init : goal.loop-k-init
loop-k-init c = (omega arith, put-none _ _)

pub write_pair-end-requires : goal.write_pair-end-requires
write_pair-end-requires c = (c.loop-k-test.true, omega (arith, c.loop-k.invariant.0, c.loop-k.auto.out, c.requires, c.loop-k-test.true))

pub loop-k-preserved : goal.loop-k-preserved
loop-k-preserved c =
    let next = c.args.next.now in
    let more = c.write_pair-end.ensures in
    let fits : c.write_pair-end.result ≤ c.args.at + arc_size * (c.loop-k.k + 1) =
    omega (arith, c.loop-k.invariant.0, more.next, pair_length c.loop-k.k (get_or next c.loop-k.k 0)) in
    (fits, arcs-more next c.loop-k.k c.loop-k.invariant.1 more (omega arith))

pub returns : goal.returns
unfolding arcs_in
returns c =
    let e : c.loop-k.k ≡ pair_count = omega (arith, c.loop-k-test.false, c.loop-k.auto.k-end) in
    (rw e at c.loop-k.invariant.1, omega (arith, c.loop-k.invariant.0, e))
