-- `graph::offers_of` meets its contract.
-- Assumes nothing.
use mathlib.Core.Path.{refl, sym, ap, ap₂, subst, ◌∙◌}
use native.Mathlib.Omega.{arith}
use lib.ListN.{length-set}
use Rattle.model.specs.Plan.{Task}
use Rattle.policy.specs.View.{InRange, tasks_in}
use Rattle.graph.specs.Offers.{span_of}
use Rattle.graph.proofs.Offered.{tasks-more}
use Rattle.graph.proofs.offers_of.Goals as goal

pub loop-i-init : goal.loop-i-init
loop-i-init c = record { size = refl; each = λ k h. absurd (omega arith) }

pub span_of-span-requires : goal.span_of-span-requires
span_of-span-requires c =
    let r = c.requires in
    subst InRange (sym c.get-task.ensures) (r.tasks.each c.loop-i.i (omega (arith, r.size)))

pub loop-i-preserved : goal.loop-i-preserved
loop-i-preserved c =
    let l = c.loop-i in
    let task = c.get-task in
    let r = c.requires in
    record {
      size = length-set l.offers l.i _ ∙ l.invariant.size;
      each =
          tasks-more l.offers l.i _ (tasks_in c.args.rules.now) c.args.label (omega (arith, l.invariant.size, r.size, r.tasks.count)) l.invariant.each
          (record {
            span = c.span_of-span.ensures ∙ ap₂ span_of task.ensures c.is_released.ensures;
            value = c.from.ensures ∙ ap (λ (t : Task). t.value) task.ensures;
          });
    }

pub returns : goal.returns
returns c =
    let size = c.requires.size in
    record { count = sym size; wanted = refl; each = λ k h. c.loop-i.invariant.each k (omega arith) }
