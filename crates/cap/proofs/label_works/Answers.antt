-- `cap::label_works` meets its contract: the places have their labels' work.
-- Assumes nothing.
use native.Mathlib.Omega.{arith}
use Rattle.std.proofs.lemmas.List.FromFn.{fill_by_all}
use Rattle.model.specs.Cap.{label_work}
use Rattle.plan.specs.View.{label_count, list_of}
use Rattle.cap.proofs.label_works.Goals as goal

pub returns : goal.returns
returns c =
    let l = c.loop-l in
    fill_by_all (label_work (list_of c.args.tasks.now)) l.works label_count 0 l.invariant.0
    (λ k h. l.invariant.1 k (omega (arith, l.auto, c.loop-l-test.false)))
