-- The nodes that a store's rows hold. Assumes nothing.
use mathlib.Core.Path.{◌≡◌, sym, ap, ◌∙◌}
use mathlib.Core.List.{List, map-map}
use Prim.Native.Nat.{ℕ, ◌<◌}
use lib.ListN.{length, get_or, length-map}
use Rattle.model.specs.Graph.{Node, start}
use Rattle.model.specs.Lists.{up_from}
use Rattle.model.proofs.Lists.{get_or-table}
use Rattle.policy.specs.View.{Tasks}
use Rattle.graph.specs.View.{node_of}
use Rattle.store.specs.Store.{row_at, rows_in}
use Rattle.store.proofs.Rows.{rows-length}
use Rattle.discovery.specs.Discovery.{node_in, view_of, nodes_in}

module _ (ts : Tasks) (m : List ℕ) (n : ℕ) (ns : List Node) (held : nodes_in ts m n ≡ ns) where
  -- as many as rows
  pub held-count : length ns ≡ n
  unfolding nodes_in
  held-count = ap length (sym held) ∙ length-map (rows_in m n) (view_of ts) ∙ rows-length m n

  -- the node in a row is the node of its number
  pub held-node : (u : ℕ) → u < n → node_of ts (node_in (row_at m u)) ≡ get_or ns u start
  unfolding nodes_in rows_in
  held-node u h =
      sym (ap (λ (l : List Node). get_or l u start) (sym held ∙ map-map (view_of ts) (row_at m) (up_from 0 n))
      ∙ get_or-table (λ j. view_of ts (row_at m j)) n u start h)
