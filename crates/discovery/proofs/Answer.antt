-- The discovery's beginning, and its answer. Assumes nothing.
use mathlib.Core.Path.{◌≡◌, refl, sym, ap, subst, ◌∙◌}
use mathlib.Core.Bool.{Bool, cond}
use mathlib.Core.List.{List, [], ◌∷◌}
use mathlib.Core.Option.{none, some}
use Prim.Native.Nat.{ℕ, ◌<◌}
use native.Mathlib.Omega.{arith}
use lib.ListN.{length}
use borrow.Author.Tests.{lt-ltb, le-ltb}
use Rattle.words.proofs.Free.{only_trans}
use Rattle.model.specs.Bytes.{Only}
use Rattle.model.specs.Graph as model
use Rattle.model.specs.Graph.{nodes, too_large}
use Rattle.model.specs.Limits.{max_nodes, max_states}
use Rattle.model.specs.Masks.{mask_count}
use Rattle.model.specs.Plan.{Plan, IsSound}
use Rattle.policy.specs.View.{Tasks, cell_count, Cells, tasks_in}
use Rattle.policy.specs.declared.Rules.{Rules}
use Rattle.graph.specs.View.{node_of, Planned, Planning}
use Rattle.graph.proofs.View.{start_view, start-cells}
use Rattle.node.specs.Start.{start_node}
use Rattle.node.specs.declared.Node.{Node}
use Rattle.store.specs.Store.{store_bytes, row_at, rows_in, Indexed}
use Rattle.store.proofs.Rows.{distinct_none}
use Rattle.std.specs.Prelude as rust
use Rattle.std.specs.Prelude.{None, Some}
use Rattle.discovery.proofs.Held.{held-count, held-node}
use Rattle.discovery.proofs.Whole.{state-below, taken-below}
use Rattle.discovery.specs.Discovery.{node_in, nodes_in, Holding, Known, Stored, Adds, Begun, Holds, Discovers}

pub none-stored : (m : List ℕ) → Indexed m 0 → Stored m 0
none-stored m index = record { index = index; distinct = distinct_none m }

-- the start node joins them, for which there is room
module _ (r : Rules) (u : Node) (e : u ≡ start_node) (m m' : List ℕ) (index : Indexed m 0) where
  joined : (o : rust.Option ℕ) → Adds u.cells (λ ts. node_of ts u ∷ []) m 0 m' o → Known (tasks_in r) (node_of (tasks_in r) u ∷ []) m m' o
  unfolding nodes_in rows_in
  joined o adds =
      let none-held : Holding (tasks_in r) m 0 = record { index = index; distinct = distinct_none m; cells = λ j h. absurd (omega arith); rows = λ j h. absurd (omega arith) } in
      adds.known (tasks_in r) none-held (subst (λ (v : Node). Cells (tasks_in r) cell_count v.cells) (sym e) (start-cells (tasks_in r)))

  pub begun-some : Adds u.cells (λ ts. node_of ts u ∷ []) m 0 m' None → ⊥
  begun-some adds = omega (arith, (joined None adds).many refl)

  pub begun : (q : ℕ) → Adds u.cells (λ ts. node_of ts u ∷ []) m 0 m' (Some q) → Begun r m' q × Only 0 store_bytes m m'
  begun q adds =
      let known = joined (Some q) adds in
      let held = known.held q refl in (
        record { held = held.0; nodes = held.1 ∙ ap (λ (v : model.Node). v ∷ []) (ap (node_of (tasks_in r)) e ∙ start_view (tasks_in r)) },
        known.only,
      )

-- the answer
module _ (r : Rules) (next first begin after : List ℕ) (some-plan : Planning r next) (kept : Only 0 store_bytes first begin) where
  answer : (P : Plan) (b : Bool) → too_large P ≡ b → cond b none (some (length (nodes P))) ≡ cond (too_large P) none (some (length (nodes P)))
  answer P b e = ap (λ (t : Bool). cond t none (some (length (nodes P)))) (sym e)

  pub discovers : (o : rust.Option ℕ) → ((P : Plan) → Planned P r next → Known (tasks_in r) (nodes P) begin after o) → Discovers r next first after o
  unfolding too_large
  discovers None known = record {
    answer = λ P p. answer P _ (lt-ltb max_nodes (length (nodes P)) ((known P p).many refl));
    held = λ n e. cc;
    only = only_trans kept (known some-plan.plan some-plan.planned).only;
  }
  discovers (Some q) known = record {
    answer = λ P p. ap some (size P p) ∙ answer P _ (le-ltb max_nodes (length (nodes P)) (omega (arith, size P p, ((known P p).held q refl).0.index.few)));
    held = λ n e P p. let h = (known P p).held n e in record { rows = h.0; nodes = h.1 };
    only = only_trans kept (known some-plan.plan some-plan.planned).only;
  }
    where
      size : (P : Plan) → Planned P r next → q ≡ length (nodes P)
      size P p = sym (held-count (tasks_in r) after q (nodes P) ((known P p).held q refl).1)

-- the nodes of a sound plan are in its states
pub node-state : (P : Plan) (ts : Tasks) (m : List ℕ) (n : ℕ) → Holds P ts m n → IsSound P → (u : ℕ) → u < n → (node_in (row_at m u)).state < max_states
unfolding nodes
node-state P ts m n holds sound u h =
    subst (λ (v : model.Node). v.state < max_states) (sym (held-node ts m n (nodes P) holds.nodes u h))
    (state-below P sound max_nodes u (omega (arith, held-count ts m n (nodes P) holds.nodes)))

-- and their patterns have the bits of a mask
pub node-taken : (P : Plan) (ts : Tasks) (m : List ℕ) (n : ℕ) → Holds P ts m n → IsSound P → (u : ℕ) → u < n → (node_in (row_at m u)).taken < mask_count
unfolding nodes
node-taken P ts m n holds sound u h =
    subst (λ (v : model.Node). v.taken < mask_count) (sym (held-node ts m n (nodes P) holds.nodes u h))
    (taken-below P sound max_nodes u (omega (arith, held-count ts m n (nodes P) holds.nodes)))
