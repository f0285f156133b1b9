-- The edges of a label are tested by what is noted of its choices. Assumes nothing.
use mathlib.Core.Path.{◌≡◌, sym, ap, ap₂, subst, ◌∙◌}
use mathlib.Core.Bool.{Bool, true}
use mathlib.Core.List.Memᴰ
use mathlib.Core.List.{List}
use mathlib.Core.Option.{none, some}
use Prim.Native.Nat.{ℕ, ◌-◌, ◌*◌, ◌/◌, ◌≤◌, ◌<◌}
use native.Mathlib.Omega.{arith}
use lib.IntN.{ℤ, pos, nat_abs, ◌+ℤ◌, ◌-ℤ◌}
use lib.ListN.{get_or}
use lib.Signed.{le_z}
use borrow.Author.Tests.{leb-true}
use Rattle.std.specs.Prelude as rust
use Rattle.std.specs.Prelude.{None, Some}
use Rattle.model.specs.Certificate.{Certificate}
use Rattle.model.specs.Check.{potential_at, within_limit, edge_ok}
use Rattle.model.specs.Discovery.{number_in}
use Rattle.model.specs.Graph.{choices, joined, worth, edge_of, edges_at, same_node, nodes}
use Rattle.model.specs.Limits.{max_potential}
use Rattle.model.specs.Lists.{all, up_from}
use Rattle.model.specs.Masks.{mask_count}
use Rattle.model.specs.Options.{option_of}
use Rattle.model.specs.Plan.{Plan, next_in}
use Rattle.model.specs.Slot as model_slot
use Rattle.model.specs.Slot.{slot}
use Rattle.model.proofs.Lists.{mem-get_or, mem-of-up_from}
use Rattle.model.proofs.Tests.{all-each}
use Rattle.plan.specs.View.{arcs_in}
use Rattle.policy.specs.View.{Tasks, jobs_of, tasks_in, Ruled}
use Rattle.policy.specs.declared.Rules.{Rules}
use Rattle.graph.specs.Outcomes.{pattern_count, Notes, pattern_in, notes_in}
use Rattle.graph.specs.Label.{order_in, Reaches}
use Rattle.graph.specs.View.{node_of}
use Rattle.node.specs.declared.Node.{Node}
use Rattle.graph.specs.declared.Noted.{Noted}
use Rattle.potentials.specs.declared.Claim.{Claim}
use Rattle.potentials.specs.Potentials.{Test, Numbered, with_pattern, gain_in, pattern_ok, max_charge, max_high, Charged}
use Rattle.potentials.specs.Best.{Leads, Expanded}
use Rattle.model.proofs.All.{all_same, all_map}
use Rattle.potentials.proofs.Greatest.{order-scored, greatest}
use Rattle.potentials.proofs.Numbers.{node-index, index_below}
use Rattle.potentials.proofs.Expanded.{edges_none, jobs-left, gained, edges-choices, pattern_there, noted_there}
use Rattle.potentials.proofs.Weights.{high_small, weight-order, less_charge}

module _ {P : Plan} {c : Certificate} {r : Rules} {next m s : List ℕ} {claim : Claim} (t : Test P c r next m s claim)
    {u : ℕ} {node : Node} (at : Numbered m claim.n u node) where
  abbrev ts : Tasks
  ts = tasks_in r

  abbrev zs : List ℤ
  zs = c.potentials

  pub potential_small : nat_abs (potential_at zs u) ≤ max_potential
  potential_small =
      leb-true (nat_abs (potential_at zs u)) max_potential
      ((all-each within_limit zs).0 t.within (potential_at zs u) (mem-get_or zs u (pos 0) (omega (arith, t.count, at.below))))

  -- ---- a label

  module _ (label : ℕ) where
    abbrev tested : Bool
    tested = all (edge_ok (nodes P) claim.fraction.p claim.fraction.q zs u) (edges_at P (node_of ts node) label)

    leads-to : (to : rust.Option ℕ) → option_of to ≡ next_in (arcs_in next) node.state label → Leads P r next m claim.n u node label to
    leads-to to leads = record { planned = t.planned; holds = t.holds; at = at; state = leads }

    -- it is not admitted
    pub label-not : none ≡ next_in (arcs_in next) node.state label → true ≡ tested
    label-not leads = ap (all (edge_ok (nodes P) claim.fraction.p claim.fraction.q zs u)) (sym (edges_none (leads-to None leads)))

    module _ (state : ℕ) (leads : some state ≡ next_in (arcs_in next) node.state label) (ruled : Ruled r) (low : node.taken < mask_count)
        (wanted : ℕ) (before after : List ℕ) (d : Noted) (reaches : Reaches r node label wanted before after d)
        (high : ℤ) (is-high : high ≡ potential_at zs u +ℤ pos (claim.fraction.q * d.done.gain)) where
      abbrev expanded : Expanded P r next m claim.n u node label state before after d
      expanded = record { leads = leads-to (Some state) leads; ruled = ruled; low = low; wanted = wanted; reaches = reaches }

      abbrev done : model_slot.Done
      done = slot P (jobs_of ts node.cells) label

      pub label_charged : claim.fraction.q * d.done.gain ≤ max_charge → Charged claim s after m d.count d.done.cells state high
      label_charged small = record {
        readable = reaches.readable;
        fits_p = t.fits_p;
        fits_high = subst (λ (z : ℤ). nat_abs z ≤ max_high) (sym is-high) (high_small (potential_at zs u) (claim.fraction.q * d.done.gain) small potential_small);
        noted = λ k h.
            subst (λ (n : Notes). 0 < get_or n.scores (pattern_in after k) 0) (sym reaches.notes)
            (order-scored ts ruled.tasks label node.taken low wanted (pattern_in after k) (noted_there expanded k h));
        found = λ k h.
            let v = with_pattern d.done.cells state (pattern_in after k) in
            let there = index_below P ts m claim.n t.holds v reaches.slot.cells (omega (arith, reaches.readable.low k h))
            (pattern_there expanded (pattern_in after k) (noted_there expanded k h)) in
            record {
              index = t.holds.rows.index;
              distinct = t.holds.rows.distinct;
              size = reaches.slot.cells.size;
              there = there;
              potential = record { certificate = c; read = t.read; below = omega (arith, t.count, there) };
            };
      }

      -- the test of a pattern and a gain, by the definition
      abbrev ok : ℕ → ℕ → Bool
      ok p g =
          le_z (potential_at zs (number_in same_node (nodes P) (record { jobs = done.jobs; taken = p; state = state })))
          (potential_at zs u +ℤ (pos (claim.fraction.q * done.gain) -ℤ pos (claim.fraction.p * g)))

      -- and as the code computes it
      ok-pattern : (p : ℕ) → p < pattern_count → ok p (gain_in after d.count p) ≡ pattern_ok claim zs after d.count m d.done.cells state high p
      ok-pattern p low =
          ap₂ le_z
          (ap (λ (js : List model_slot.Job). potential_at zs (number_in same_node (nodes P) (record { jobs = js; taken = p; state = state }))) (sym (jobs-left expanded))
          ∙ ap (potential_at zs) (node-index P ts m claim.n t.holds (with_pattern d.done.cells state p) reaches.slot.cells (omega arith)))
          (sym (weight-order (potential_at zs u) (claim.fraction.q * done.gain) (claim.fraction.p * gain_in after d.count p))
          ∙ ap (λ (g : ℕ). potential_at zs u +ℤ pos (claim.fraction.q * g) -ℤ pos (claim.fraction.p * gain_in after d.count p)) (sym (gained expanded))
          ∙ ap (λ (z : ℤ). z -ℤ pos (claim.fraction.p * gain_in after d.count p)) (sym is-high))

      pub label-tested : all (pattern_ok claim zs after d.count m d.done.cells state high) (order_in after d.count) ≡ tested
      unfolding edge_of notes_in
      label-tested =
          sym (ap (all (edge_ok (nodes P) claim.fraction.p claim.fraction.q zs u)) (edges-choices expanded)
          ∙ all_map (edge_ok (nodes P) claim.fraction.p claim.fraction.q zs u) (edge_of P (node_of ts node) label state) (choices ts label node.taken)
          ∙ ap (λ (l : Tasks). all (λ ms. ok (joined node.taken ms / 2) (worth l ms)) (choices ts label node.taken)) t.planned.for.tasks
          ∙ greatest ts ruled.tasks label node.taken low wanted ok
          (λ p g h. less_charge (potential_at zs (number_in same_node (nodes P) (record { jobs = done.jobs; taken = p; state = state }))) (potential_at zs u) (claim.fraction.q * done.gain) claim.fraction.p g h)
          ∙ ap (λ (n : Notes). all (λ p. ok p (get_or n.scores p 0 - 1)) n.order) (sym reaches.notes)
          ∙ all_same (λ p. ok p (gain_in after d.count p)) (pattern_ok claim zs after d.count m d.done.cells state high) (order_in after d.count)
          (λ p k.
          let s = Memᴰ.of_map (pattern_in after) (up_from 0 d.count) k in
          ok-pattern p (subst (λ (q : ℕ). q < pattern_count) s.2 (reaches.readable.low s.0 (omega (arith, mem-of-up_from 0 d.count s.1))))))
