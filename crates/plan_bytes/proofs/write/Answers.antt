-- `plan_bytes::write` meets its contract: it writes in the long_read edition.
-- Assumes nothing.
use mathlib.Core.Path.{sym, ap, subst}
use mathlib.Core.Logic.{inr}
use Prim.Native.Nat.{◌≤◌}
use lib.ListN.{length}
use Rattle.model.specs.Edition.{Edition, plan_room_in}
use Rattle.plan_bytes.proofs.write.Goals as goal

pub write_in-requires : goal.write_in-requires
write_in-requires c =
    let long = c.long_reads.ensures in
    (inr (ap (λ (e : Edition). e.value_width) long), λ t m h. ap (λ (e : Edition). e.locks) long, subst (λ (e : Edition). plan_room_in e ≤ length c.args.out.now) (sym long) c.requires)

pub returns : goal.returns
returns c = rw c.long_reads.ensures at c.write_in.ensures
