-- `cap::Cap::of` meets its contract: the table of works, the number of labels, and a cap that fits.
-- Assumes nothing.
use mathlib.Core.Path.{◌≡◌, refl, sym, ap, ◌∙◌}
use Prim.Native.Nat.{ℕ, ◌^◌}
use native.Mathlib.Omega.{arith}
use lib.ListN.{length}
use lib.Pow.{pow_mono}
use Rattle.model.specs.Limits.{max_tasks}
use Rattle.plan.specs.View.{list_of}
use Rattle.plan.proofs.View.{tasks-size}
use Rattle.cap.proofs.Cap.of.Goals as goal

pub returns : goal.returns
returns c =
    let tasks = c.args.tasks.now in
    let size : 2 ^ tasks.count ≡ 2 ^ length (list_of tasks) = ap (λ (n : ℕ). 2 ^ n) (sym (tasks-size tasks)) in
    record {
      works = c.label_works-works.ensures;
      labels = c.labels.ensures ∙ size;
      few = pow_mono {j = max_tasks} (omega (arith, tasks-size tasks, tasks.fits));
      slots = refl;
      most = refl;
      ranged = c.requires;
    }
