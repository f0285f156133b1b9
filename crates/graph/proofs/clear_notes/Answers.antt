-- `graph::clear_notes` meets its contract. Assumes nothing.
use mathlib.Core.Path.{◌≡◌, ap, ◌∙◌}
use Prim.Native.Nat.{ℕ}
use native.Mathlib.Omega.{arith}
use lib.ListN.{length, replicate, take}
use lib.Seq.{length-take-le}
use Rattle.graph.specs.Outcomes.{order_at}
use Rattle.graph.proofs.Notes.{front-cleared}
use Rattle.graph.proofs.clear_notes.Goals as goal

pub returns : goal.returns
returns c =
    let m = c.args.notes.now in
    let size : length (take order_at m) ≡ order_at = length-take-le order_at m (omega (arith, c.told-notes)) in
    front-cleared m c.fill.new.self (omega (arith, c.told-notes)) (c.fill.ensures.after (λ y e. e) ∙ ap (λ (k : ℕ). replicate k 0) size)
