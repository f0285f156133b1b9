-- `convert::back_in` meets its contract: what the first edition can't say is refused, the rest is written.
-- Assumes nothing.
use mathlib.Core.Path.{sym, ap, subst, ◌∙◌}
use mathlib.Core.Logic.{inl}
use Prim.Native.Nat.{◌≤◌}
use lib.ListN.{length}
use Rattle.model.specs.Edition.{Edition, plan_room_in}
use Rattle.node.specs.Edition.{edition_of}
use Rattle.plan.specs.View.{plan_of}
use Rattle.convert.proofs.Tasks.{locks_said}
use Rattle.convert.proofs.Answers.{not_said, said}
use Rattle.convert.proofs.back_in.Goals as goal

pub returns-then-not-says_all : goal.returns-then-not-says_all
returns-then-not-says_all c = not_said c.args.plan _ (rw c.first-first.ensures at (sym c.says_all.ensures ∙ c.if-not-says_all.true))

pub write_in-requires : goal.write_in-requires
write_in-requires c =
    let first = c.first-first.ensures in
    let locks = locks_said (edition_of c.first-first.result) (plan_of c.args.plan).tasks (sym c.says_all.ensures ∙ c.if-not-says_all.false) in
    (inl (ap (λ (e : Edition). e.value_width) first), locks, subst (λ (e : Edition). plan_room_in e ≤ length c.args.out.now) (sym first) c.requires)

pub returns : goal.returns
returns c =
    let first = c.first-first.ensures in
    let put = rw first at c.write_in.ensures in
    said c.args.plan _ (rw first at (sym c.says_all.ensures ∙ c.if-not-says_all.false)) _ _ put.value put.out_after
