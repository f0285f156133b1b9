-- The test of a certificate's cycle, by its parts. Assumes nothing.
use mathlib.Core.Path.{◌≡◌, refl, sym, ap, ◌∙◌}
use mathlib.Core.Bool.{Bool, true, false, cond, ◌&&◌}
use mathlib.Core.List.{List}
use mathlib.Core.Option.{Option, none}
use Prim.Native.Nat.{ℕ, ◌*◌, ◌^◌, ◌≤◌, ◌<◌}
use lib.Dec.{ltb, eqb}
use lib.ListN.{length, get_or}
use borrow.Author.Tests.{eq-eqb, ne_eqb, lt-ltb, le-ltb}
use Rattle.std.specs.Prelude.{Some}
use Rattle.model.specs.Certificate.{Certificate}
use Rattle.model.specs.Check.{Reached, follow, closes, cycle_ok}
use Rattle.model.specs.Graph.{Node, start, nodes, same_node}
use Rattle.model.specs.Lists.{same_numbers}
use Rattle.model.specs.Plan.{Plan}
use Rattle.model.proofs.Discovery.{same_back}
use Rattle.theory.proofs.Nodes.{same-node}
use Rattle.policy.specs.View.{Tasks, cell_count, Cells}
use Rattle.graph.specs.View.{node_of}
use Rattle.node.specs.declared.Node as graph
use Rattle.store.specs.Store.{row_at}
use Rattle.discovery.specs.Discovery.{pattern_bytes, row_of, node_in, Holding}
use Rattle.discovery.proofs.Nodes.{row_view_lem, held-row-at}
use Rattle.cycle.specs.Cycle.{reached_in}
use Rattle.cycle.specs.declared.Walked.{Walked}

module _ (P : Plan) (c : Certificate) where
  abbrev ends : Node → Bool
  ends u = closes c.p c.q u (follow P c.steps (record { at = u; kept = 0; ideal = 0 }))

  abbrev u : Node
  u = get_or (nodes P) c.node start

  ok : (free inside : Bool) → eqb c.q 0 ≡ free → ltb c.node (length (nodes P)) ≡ inside → cond free true (inside && ends u) ≡ cycle_ok P (nodes P) c
  unfolding cycle_ok
  ok free inside e f = sym (λ i. cond (e i) true (f i && ends u))

  -- nothing is asked where nothing recurs
  pub cycle_free : c.q ≡ 0 → true ≡ cycle_ok P (nodes P) c
  cycle_free e = ok true _ (eq-eqb c.q 0 e) refl

  module _ (recurs : c.q ≡ 0 → ⊥) where
    -- no node is named
    pub cycle_outside : length (nodes P) ≤ c.node → false ≡ cycle_ok P (nodes P) c
    cycle_outside le = ok false false (ne_eqb c.q 0 recurs) (le-ltb c.node (length (nodes P)) le)

    -- the steps lead from the named node back to it
    pub cycle-inside : c.node < length (nodes P) → (v : Node) → v ≡ u → (o : Option Reached) →
        o ≡ follow P c.steps (record { at = v; kept = 0; ideal = 0 }) → closes c.p c.q v o ≡ cycle_ok P (nodes P) c
    cycle-inside lt v at o reached =
        ap (closes c.p c.q v) reached ∙ ap ends at ∙ ok false true (ne_eqb c.q 0 recurs) (lt-ltb c.node (length (nodes P)) lt)

-- by what following the steps gives
module _ (P : Plan) (c : Certificate) (recurs : c.q ≡ 0 → ⊥) (inside : c.node < length (nodes P)) (ts : Tasks) (from : graph.Node)
    (named : node_of ts from ≡ get_or (nodes P) c.node start) where
  -- a step is no edge
  pub cycle_lost : none ≡ follow P c.steps (record { at = node_of ts from; kept = 0; ideal = 0 }) → false ≡ cycle_ok P (nodes P) c
  cycle_lost reached = cycle-inside P c recurs inside (node_of ts from) named none reached

  -- the steps lead back, or elsewhere
  pub cycle-walked : (w : Walked) → reached_in ts (Some w) ≡ follow P c.steps (record { at = node_of ts from; kept = 0; ideal = 0 }) →
      (back : Bool) → same_node (node_of ts w.at) (node_of ts from) ≡ back →
      (back && ltb 0 w.ideal && eqb (c.p * w.ideal) (c.q * w.kept)) ≡ cycle_ok P (nodes P) c
  cycle-walked w reached back e =
      sym (ap (λ (b : Bool). b && ltb 0 w.ideal && eqb (c.p * w.ideal) (c.q * w.kept)) e)
      ∙ cycle-inside P c recurs inside (node_of ts from) named (reached_in ts (Some w)) reached

-- rows are equal just if their nodes are
pub same_end : (ts : Tasks) (m : List ℕ) (n : ℕ) → Holding ts m n → (j : ℕ) → j < n → (from at : graph.Node) → from ≡ node_in (row_at m j) →
    Cells ts cell_count at.cells → at.taken < 256 ^ pattern_bytes → (end : List ℕ) → end ≡ row_of at → (b : Bool) → b ≡ same_numbers (row_at m j) end →
    same_node (node_of ts at) (node_of ts from) ≡ b
same_end ts m n held j below from at is fits small end ends b tested =
    same_back same_node same-node (node_of ts at) (node_of ts from) ∙ ap (λ (u : graph.Node). same_node (node_of ts u) (node_of ts at)) is
    ∙ row_view_lem ts at fits small (row_at m j) (held-row-at ts m n held j below) ∙ ap (same_numbers (row_at m j)) (sym ends) ∙ sym tested
