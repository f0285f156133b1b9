-- The verdict on a certificate, by its tests. Assumes nothing.
use mathlib.Core.Path.{◌≡◌, refl, sym, ap, ◌∙◌}
use mathlib.Core.Bool.{Bool, true, false, cond, ◌&&◌}
use lib.Dec.{eqb}
use lib.ListN.{length}
use borrow.Author.Tests.{eq-eqb, ne_eqb}
use Rattle.model.specs.Certificate.{Certificate}
use Rattle.model.specs.Check.{CheckAnswer, refused, share, within_limit, edges_ok_from, fraction_ok, potentials_ok, cycle_ok, allowance, verdict}
use Rattle.model.specs.Graph.{nodes}
use Rattle.model.specs.Lists.{all}
use Rattle.model.specs.Plan.{Plan}
use Rattle.model.specs.Refusals.{bad_fraction, bad_count, bad_potential, bad_cycle}

module _ (P : Plan) (c : Certificate) where
  abbrev answer : Bool → Bool → Bool → Bool → CheckAnswer
  answer fraction count potentials cycle =
      cond fraction (cond count (cond potentials (cond cycle (share c.p c.q (length c.potentials) (allowance c.potentials))
      (refused bad_cycle)) (refused bad_potential)) (refused bad_count)) (refused bad_fraction)

  by : (fraction count potentials cycle : Bool) → fraction_ok c.p c.q ≡ fraction → eqb (length c.potentials) (length (nodes P)) ≡ count →
      potentials_ok P (nodes P) c.p c.q c.potentials ≡ potentials → cycle_ok P (nodes P) c ≡ cycle → answer fraction count potentials cycle ≡ verdict P c
  unfolding verdict
  by fraction count potentials cycle f n p y = sym (λ i. answer (f i) (n i) (p i) (y i))

  pub bad_fraction_lem : fraction_ok c.p c.q ≡ false → refused bad_fraction ≡ verdict P c
  bad_fraction_lem f = by false _ _ _ f refl refl refl

  module _ (fraction : fraction_ok c.p c.q ≡ true) where
    pub bad_count_lem : (length c.potentials ≡ length (nodes P) → ⊥) → refused bad_count ≡ verdict P c
    bad_count_lem n = by true false _ _ fraction (ne_eqb (length c.potentials) (length (nodes P)) n) refl refl

    module _ (count : length c.potentials ≡ length (nodes P)) where
      same : eqb (length c.potentials) (length (nodes P)) ≡ true
      same = eq-eqb (length c.potentials) (length (nodes P)) count

      pub bad_limit : all within_limit c.potentials ≡ false → refused bad_potential ≡ verdict P c
      unfolding potentials_ok
      bad_limit l = by true true false _ fraction same (ap (λ (b : Bool). b && edges_ok_from P (nodes P) c.p c.q c.potentials 0 (nodes P)) l) refl

      module _ (within : all within_limit c.potentials ≡ true) where
        edges-only : (b : Bool) → b ≡ edges_ok_from P (nodes P) c.p c.q c.potentials 0 (nodes P) →
            potentials_ok P (nodes P) c.p c.q c.potentials ≡ b
        unfolding potentials_ok
        edges-only b e = ap (λ (t : Bool). t && edges_ok_from P (nodes P) c.p c.q c.potentials 0 (nodes P)) within ∙ sym e

        pub bad_edge : false ≡ edges_ok_from P (nodes P) c.p c.q c.potentials 0 (nodes P) → refused bad_potential ≡ verdict P c
        bad_edge e = by true true false _ fraction same (edges-only false e) refl

        module _ (edges : true ≡ edges_ok_from P (nodes P) c.p c.q c.potentials 0 (nodes P)) where
          pub bad_cycle_lem : false ≡ cycle_ok P (nodes P) c → refused bad_cycle ≡ verdict P c
          bad_cycle_lem y = by true true true false fraction same (edges-only true edges) (sym y)

          pub accepted : true ≡ cycle_ok P (nodes P) c → share c.p c.q (length c.potentials) (allowance c.potentials) ≡ verdict P c
          accepted y = by true true true true fraction same (edges-only true edges) (sym y)
