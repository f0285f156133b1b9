-- A certificate with the smallest costs for potentials may be written, but for its fraction, its count and its cycle.
-- Assumes nothing.
use mathlib.Core.Path.{◌≡◌, refl, ◌∙◌, subst}
use mathlib.Core.Bool.{true, false}
use mathlib.Core.List.{List, [], map, Memᴰ}
use mathlib.Core.Option.{some}
use Prim.Native.Nat.{ℕ, ◌≤◌}
use native.Mathlib.Omega.{arith}
use lib.IntN.{ℤ, pos}
use lib.ListN.{length}
use Rattle.model.specs.Limits.{max_steps}
use Rattle.model.specs.Edition.{long_reads}
use Rattle.model.specs.Lists.{all}
use Rattle.model.specs.Plan.{Plan}
use Rattle.model.specs.Graph.{nodes, too_large}
use Rattle.model.specs.Certificate.{Certificate}
use Rattle.model.specs.Check.{within_limit, fraction_ok, edges_ok_from, potentials_ok, cycle_ok, allowance}
use Rattle.model.specs.Passes.{PassesTo, beginning}
use Rattle.model.specs.Solve.{Solved}
use Rattle.model.proofs.Lists.{place}
use Rattle.model.proofs.Plan.{long_wide}
use Rattle.model.proofs.Tests.{true-and, all-each}
use Rattle.theory.proofs.Sound.{PlanSound}
use Rattle.theory.proofs.Nodes.{nodes_fit}
use Rattle.theory.proofs.Accepted.{Accepted, accepted-iff}
use Rattle.theory.proofs.Form.{certificate-read-back, accepted_formed}
use Rattle.theory.proofs.Distances.{AllSmallest, smallest_pass}
use Rattle.theory.proofs.Short.{smallest_short}
use Rattle.theory.proofs.Passes.{passes-few}
use Rattle.theory.proofs.Gains.{cost-within}

module _ (P : Plan) (fits : too_large P ≡ false) (p q : ℕ) (zs : List ℤ) (smallest : AllSmallest P p q zs) (sd : PlanSound P)
    (ok : fraction_ok p q ≡ true) (sized : length zs ≡ length (nodes P)) where
  -- smallest costs are within the limit
  pub smallest_within : all within_limit zs ≡ true
  smallest_within = (all-each within_limit zs).1 each
    where
      each : (z : ℤ) → Memᴰ z zs → within_limit z ≡ true
      each z m =
          let at = place (pos 0) m in
          let s = smallest_short P fits p q zs smallest (smallest at.0 (omega (arith, at.1))) in
          subst (λ x. within_limit x ≡ true) (s.3 ∙ at.2)
          (cost-within P sd p q ok s.1 (omega (arith, s.2, nodes_fit P fits)))

  -- the potentials pass
  pub smallest_ok : potentials_ok P (nodes P) p q zs ≡ true
  unfolding potentials_ok
  smallest_ok = true-and (all within_limit zs) (edges_ok_from P (nodes P) p q zs 0 (nodes P)) smallest_within (smallest_pass P fits p q zs smallest)

-- such a certificate may be written for the plan, where its steps are no more than the limit and are missing for q = 0
pub solved-of : (P : Plan) → PlanSound P → too_large P ≡ false → (c : Certificate) → length c.potentials ≡ length (nodes P) →
    fraction_ok c.p c.q ≡ true → AllSmallest P c.p c.q c.potentials → cycle_ok P (nodes P) c ≡ true →
    length c.steps ≤ max_steps → (c.q ≡ 0 → (c.node ≡ 0) × (c.steps ≡ [])) → {k : ℕ} →
    PassesTo P c.p c.q (beginning (length (nodes P))) (map some c.potentials) k → Solved P c k
solved-of P sd fits c counted ok smallest cycle few bare passes = record {
  form = certificate-read-back long_reads c (accepted_formed long_reads long_wide P (λ t m. (sd.task t m).window_fits) fits c found few bare);
  accepted = (accepted-iff P c).1 found;
  potentials = smallest;
  passes = passes;
  few = passes-few P c.p c.q fits c.potentials counted smallest passes;
}
  where
    found : Accepted P c c.p c.q (length c.potentials) (allowance c.potentials)
    found = record {
      is_p = refl;
      is_q = refl;
      is_count = refl;
      is_allowance = refl;
      fraction = ok;
      counted = counted;
      potentials = smallest_ok P fits c.p c.q c.potentials smallest sd ok counted;
      cycle = cycle;
    }
