-- The numbers of nodes are those of their rows. Assumes nothing.
use mathlib.Core.Path.{◌≡◌, sym, ap, subst, ◌∙◌}
use mathlib.Core.Bool.{false}
use mathlib.Core.List.{List, Memᴰ}
use Prim.Native.Nat.{ℕ, ◌^◌, ◌<◌}
use native.Mathlib.Omega.{arith}
use lib.ListN.{length, get_or}
use borrow.Author.Tests.{le-ltb}
use Rattle.model.specs.Discovery.{number_in}
use Rattle.model.specs.Graph as model
use Rattle.model.specs.Graph.{start, nodes, too_large, same_node}
use Rattle.model.specs.Limits.{max_nodes, max_states}
use Rattle.model.specs.Masks.{mask_count}
use Rattle.model.specs.Plan.{Plan, IsSound}
use Rattle.model.proofs.Lists.{mem-get_or}
use Rattle.theory.proofs.Nodes.{number_at, number-get_or, nodes-distinct}
use Rattle.policy.specs.View.{Tasks, cell_count, Cells}
use Rattle.graph.specs.View.{node_of}
use Rattle.node.specs.declared.Node.{Node}
use Rattle.store.specs.Store.{row_at, rows_in, index_in}
use Rattle.discovery.specs.Discovery.{pattern_bytes, row_of, node_in, nodes_in, Holds}
use Rattle.discovery.proofs.Nodes.{number-rows, held-row}
use Rattle.discovery.proofs.Held.{held-count, held-node}
use Rattle.discovery.proofs.Answer.{node-state, node-taken}
use Rattle.potentials.specs.Potentials.{Numbered}

-- the rows of a plan's nodes
module _ (P : Plan) (ts : Tasks) (m : List ℕ) (n : ℕ) (held : Holds P ts m n) where
  pub nodes-few : too_large P ≡ false
  unfolding too_large
  nodes-few = le-ltb max_nodes (length (nodes P)) (omega (arith, held-count ts m n (nodes P) held.nodes, held.rows.index.few))

  pub node-mem : (u : ℕ) → u < n → Memᴰ (node_of ts (node_in (row_at m u))) (nodes P)
  node-mem u h = subst (λ (v : model.Node). Memᴰ v (nodes P)) (sym (held-node ts m n (nodes P) held.nodes u h)) (mem-get_or (nodes P) u start (omega (arith, held-count ts m n (nodes P) held.nodes)))

  -- the number of a node among them, by its row
  pub node-index : (v : Node) → Cells ts cell_count v.cells → v.taken < 256 ^ pattern_bytes → number_in same_node (nodes P) (node_of ts v) ≡ index_in (rows_in m n) (row_of v)
  unfolding nodes_in
  node-index v fits small =
      ap (λ (l : List model.Node). number_in same_node l (node_of ts v)) (sym held.nodes) ∙ number-rows ts v fits small (rows_in m n) (held-row ts m n held.rows)

  pub index_below : (v : Node) → Cells ts cell_count v.cells → v.taken < 256 ^ pattern_bytes → Memᴰ (node_of ts v) (nodes P) → index_in (rows_in m n) (row_of v) < n
  index_below v fits small mem = omega (arith, (number_at (nodes P) (node_of ts v) start mem).0, node-index v fits small, held-count ts m n (nodes P) held.nodes)

  -- the node of that number, and the number of that node
  pub index-node : (v : Node) → Cells ts cell_count v.cells → v.taken < 256 ^ pattern_bytes → Memᴰ (node_of ts v) (nodes P) →
      get_or (nodes P) (index_in (rows_in m n) (row_of v)) start ≡ node_of ts v
  index-node v fits small mem = ap (λ (i : ℕ). get_or (nodes P) i start) (sym (node-index v fits small)) ∙ (number_at (nodes P) (node_of ts v) start mem).1

  pub index_is : (v : Node) → Cells ts cell_count v.cells → v.taken < 256 ^ pattern_bytes → (i : ℕ) → i < n → node_of ts v ≡ get_or (nodes P) i start →
      index_in (rows_in m n) (row_of v) ≡ i
  index_is v fits small i h e =
      sym (node-index v fits small) ∙ ap (number_in same_node (nodes P)) e
      ∙ number-get_or (nodes P) start (nodes-distinct P) i (omega (arith, held-count ts m n (nodes P) held.nodes))

  -- ---- the node of a row

  pub numbered-cells : (u : ℕ) (v : Node) → Numbered m n u v → Cells ts cell_count v.cells
  numbered-cells u v at = subst (λ (x : Node). Cells ts cell_count x.cells) (sym at.row) (held.rows.cells u at.below)

  pub numbered-taken : IsSound P → (u : ℕ) (v : Node) → Numbered m n u v → v.taken < mask_count
  numbered-taken s u v at = subst (λ (x : Node). x.taken < mask_count) (sym at.row) (node-taken P ts m n held s u at.below)

  pub numbered-low : IsSound P → (u : ℕ) (v : Node) → Numbered m n u v → v.state < max_states
  numbered-low sound u v at = subst (λ (x : Node). x.state < max_states) (sym at.row) (node-state P ts m n held sound u at.below)
