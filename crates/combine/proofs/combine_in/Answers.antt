-- `combine::combine_in` meets its contract: different tasks, then too many pairs, then the plan of both.
-- Assumes nothing.
use mathlib.Core.Path.{sym, ◌∙◌}
use Rattle.combine.proofs.Answers.{other-tasks, many-pairs, both_written}
use Rattle.combine.proofs.combine_in.Goals as goal

pub returns-then-not-same_tasks : goal.returns-then-not-same_tasks
returns-then-not-same_tasks c =
    other-tasks c.args.first c.args.second _ (sym c.same_tasks.ensures ∙ c.if-not-same_tasks.true)

pub returns-in_default : goal.returns-in_default
returns-in_default c =
    many-pairs c.args.first c.args.second _ (sym c.same_tasks.ensures ∙ c.if-not-same_tasks.false) c.product.result c.product.ensures c.in_default.is

pub returns : goal.returns
returns c =
    both_written c.args.first c.args.second _ (sym c.same_tasks.ensures ∙ c.if-not-same_tasks.false) c.product.result c.product.ensures c.in-Some.both c.in-Some.is
    _ _ c.write.ensures.value c.write.ensures.out_after
