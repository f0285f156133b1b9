-- A certificate that is read, tested against a machine's nodes: the verdict by the code's tests. Assumes nothing.
use mathlib.Core.Path.{◌≡◌, refl, sym, ◌∙◌}
use mathlib.Core.Bool.{Bool, true, false}
use mathlib.Core.List.{List}
use Prim.Native.Nat.{ℕ}
use lib.ListN.{length}
use Rattle.model.specs.Edition.{long_reads}
use Rattle.model.specs.Certificate.{Certificate}
use Rattle.model.specs.Check.{refused, share, within_limit, fraction_ok, edges_ok_from, cycle_ok, allowance, verdict}
use Rattle.model.specs.Graph.{nodes}
use Rattle.model.specs.Lists.{all}
use Rattle.model.specs.Plan.{Plan}
use Rattle.model.specs.Refusals.{bad_count, bad_potential, bad_cycle}
use Rattle.theory.proofs.Gains.{fraction-fits}
use Rattle.certificate.specs.View.{head_size, potential_size, potential_in, certificate_of, IsRead}
use Rattle.certificate.specs.declared.Parts.{Parts}
use Rattle.certificate.proofs.Runs.{items-length}
use Rattle.policy.specs.View.{tasks_in}
use Rattle.policy.specs.declared.Rules.{Rules}
use Rattle.graph.specs.View.{Planned}
use Rattle.discovery.specs.Discovery.{Holds}
use Rattle.discovery.proofs.Held.{held-count}
use Rattle.potentials.specs.Potentials.{Test}
use Rattle.checker.proofs.Tests.{bad_count_lem, bad_limit, bad_edge, bad_cycle_lem, accepted}

module _ (bs : List ℕ) (parts : Parts) where
  abbrev z : Certificate
  z = certificate_of long_reads bs parts

  size : length z.potentials ≡ parts.count
  size = items-length (potential_in bs) head_size potential_size parts.count

  module _ (r : Rules) {m : List ℕ} {n : ℕ} (fraction : fraction_ok parts.fraction.p parts.fraction.q ≡ true) where
    -- the count is another
    pub other_count : (parts.count ≡ n → ⊥) → (P : Plan) → Holds P (tasks_in r) m n → refused bad_count ≡ verdict P z
    other_count other P h = bad_count_lem P z fraction (λ e. other (sym size ∙ e ∙ held-count (tasks_in r) m n (nodes P) h.nodes))

    module _ (count : parts.count ≡ n) where
      same : (P : Plan) → Holds P (tasks_in r) m n → length z.potentials ≡ length (nodes P)
      same P h = size ∙ count ∙ sym (held-count (tasks_in r) m n (nodes P) h.nodes)

      pub past_limit : all within_limit z.potentials ≡ false → (P : Plan) → Holds P (tasks_in r) m n → refused bad_potential ≡ verdict P z
      past_limit past P h = bad_limit P z fraction (same P h) past

      module _ {next : List ℕ} (read : IsRead long_reads bs parts) (within : all within_limit z.potentials ≡ true) where
        -- what the potentials are tested against
        pub tested : (P : Plan) → Planned P r next → Holds P (tasks_in r) m n → Test P z r next m bs (record { fraction = parts.fraction; n = n })
        tested P planned holds =
            let fits = fraction-fits parts.fraction.p parts.fraction.q fraction in
            record {
              planned = planned;
              holds = holds;
              read = read.read;
              count = size ∙ count;
              is_p = refl;
              is_q = refl;
              fits_p = fits.0;
              fits_q = fits.1;
              within = within;
            }

        -- the edges and the cycle, by what is ensured of their tests
        module _ {edges : Bool} (by-edges : (P : Plan) (c : Certificate) → Test P c r next m bs (record { fraction = parts.fraction; n = n }) →
            edges ≡ edges_ok_from P (nodes P) parts.fraction.p parts.fraction.q c.potentials 0 (nodes P)) where
          pub edge_fails : edges ≡ false → (P : Plan) → Planned P r next → Holds P (tasks_in r) m n → refused bad_potential ≡ verdict P z
          edge_fails fails P p h = bad_edge P z fraction (same P h) within (sym fails ∙ by-edges P z (tested P p h))

          module _ (passed : edges ≡ true) {cycle : Bool}
              (by-cycle : (P : Plan) → Planned P r next → Holds P (tasks_in r) m n → cycle ≡ cycle_ok P (nodes P) z) where
            pub cycle_fails : cycle ≡ false → (P : Plan) → Planned P r next → Holds P (tasks_in r) m n → refused bad_cycle ≡ verdict P z
            cycle_fails fails P p h = bad_cycle_lem P z fraction (same P h) within (sym passed ∙ by-edges P z (tested P p h)) (sym fails ∙ by-cycle P p h)

            pub all_pass : cycle ≡ true → {k : ℕ} → k ≡ allowance z.potentials → (P : Plan) → Planned P r next → Holds P (tasks_in r) m n →
                share parts.fraction.p parts.fraction.q n k ≡ verdict P z
            all_pass closes is P p h =
                (λ i. share parts.fraction.p parts.fraction.q ((sym count ∙ sym size) i) (is i))
                ∙ accepted P z fraction (same P h) within (sym passed ∙ by-edges P z (tested P p h)) (sym closes ∙ by-cycle P p h)
