-- `solution::attained` meets its contract: the sums of the cycle, in lowest terms. Assumes nothing.
use mathlib.Core.Path.{◌∙◌, ap₂}
use Prim.Native.Nat.{ℕ, ◌/◌}
use native.Mathlib.Omega.{arith}
use Rattle.model.specs.Check.{gcd}
use Rattle.solution.proofs.Falls.{circling-turns, circling-few, circling-some, circling_lowers}
use Rattle.solution.proofs.attained.Goals as goal

pub gains-sums-requires-clause-turning : goal.gains-sums-requires-clause-turning
gains-sums-requires-clause-turning c =
    let g = c.requires.0 in
    let k = g.circling in record {
      room = c.requires.1;
      few = omega (arith, circling-few k, k.holds.rows.index.few);
      plan = g.plan;
      next = g.next;
      count = g.claim.n;
      node = k.turned.node;
      edges = k.turned.circuit.edges;
      turns = circling-turns k;
    }

pub lowest-requires : goal.lowest-requires
lowest-requires c =
    let g = c.requires.0 in
    omega (arith, circling-some g.circling, (c.gains-sums.ensures g.plan g.next g.claim.n _ _ (circling-turns g.circling)).1)

pub returns : goal.returns
returns c P next claim k =
    let sums = c.gains-sums.ensures P next claim.n _ _ (circling-turns k) in
    circling_lowers k c.lowest.result (c.lowest.ensures.0 ∙ ap₂ (λ (x y : ℕ). x / gcd x y) sums.0 sums.1)
    (c.lowest.ensures.1 ∙ ap₂ (λ (x y : ℕ). y / gcd x y) sums.0 sums.1)
