-- The nodes of a graph as rows of the node store.
use Rattle.std.specs.Prelude as rust
use Rattle.std.specs.Prelude.{None, Some}
use Rattle.std.specs.Prelude.{◌≡◌, cond, ℕ, ◌+◌, ◌<◌, ◌≤◌, length, get_or, take}
use Rattle.std.proofs.Math.Option.{none, some}
use mathlib.Core.List.{List, [], ◌∷◌, ◌++◌, map, foldl}
use Rattle.model.specs.Bytes.{number, bytes, part, Only}
use Rattle.model.specs.Discovery.{add}
use Rattle.model.specs.Graph as model
use Rattle.model.specs.Graph.{same_node}
use Rattle.model.specs.Limits.{max_nodes}
use Rattle.model.specs.Lists.{flat_map, up_from}
use Rattle.model.specs.Plan.{Plan, next_in}
use Rattle.plan.specs.View.{arcs_in}
use Rattle.policy.specs.View.{Tasks, cell_count, jobs_of, Cells, tasks_in, PlanFor}
use Rattle.policy.specs.declared.Rules.{Rules}
use Rattle.graph.specs.View.{node_of, Planned}
use Rattle.node.specs.declared.Node.{Node}
use Rattle.store.specs.declared.Place.{Place}
use Rattle.model.specs.Options.{option_of}
use Rattle.store.specs.Store.{store_bytes, row_at, rows_in, Distinct, Indexed}

abbrev pub pattern_bytes : ℕ
pattern_bytes = 2

-- a node as a row: the cells, two bytes of the pattern, the state
abbrev pub row_of : Node → List ℕ
row_of u = u.cells ++ (bytes pattern_bytes u.taken ++ (u.state ∷ []))

-- and back
abbrev pub taken_at : ℕ
taken_at = cell_count

abbrev pub state_at : ℕ
state_at = taken_at + pattern_bytes

abbrev pub node_in : List ℕ → Node
node_in row = record { cells = take cell_count row; taken = number (part row taken_at pattern_bytes); state = get_or row state_at 0 }

-- the node of the model that a row stands for
abbrev pub view_of : Tasks → List ℕ → model.Node
view_of ts row = node_of ts (node_in row)

-- the nodes of the first n rows
unfoldable pub nodes_in : Tasks → List ℕ → ℕ → List model.Node
nodes_in ts memory n = map (view_of ts) (rows_in memory n)

-- n distinct rows of nodes whose cells a node can hold, each that of its node, and their index
pub record Holding (ts : Tasks) (memory : List ℕ) (n : ℕ) : Type 0 where
  pub index : Indexed memory n
  pub distinct : Distinct (rows_in memory n)
  pub cells : (j : ℕ) → j < n → Cells ts cell_count (node_in (row_at memory j)).cells
  pub rows : (j : ℕ) → j < n → row_of (node_in (row_at memory j)) ≡ row_at memory j

-- the number of nodes after an answer, none where there are too many
abbrev pub count_in : rust.Option Place → rust.Option ℕ
count_in None = None
count_in (Some p) = Some p.count

-- r rows hold the nodes, in order, or these are too many; the bytes behind the store are as they were
pub record Known (ts : Tasks) (nodes : List model.Node) (before after : List ℕ) (r : rust.Option ℕ) : Type 0 where
  pub held : (n : ℕ) → r ≡ Some n → Holding ts after n × (nodes_in ts after n ≡ nodes)
  pub many : r ≡ None → max_nodes < length nodes
  pub only : Only 0 store_bytes before after

-- n distinct rows and their index
pub record Stored (memory : List ℕ) (n : ℕ) : Type 0 where
  pub index : Indexed memory n
  pub distinct : Distinct (rows_in memory n)

-- the nodes vs, whose cells are these, join those of n rows: then there are r rows
pub record Adds (cells : List ℕ) (vs : Tasks → List model.Node) (before : List ℕ) (n : ℕ) (after : List ℕ) (r : rust.Option ℕ) : Type 0 where
  pub stored : (k : ℕ) → r ≡ Some k → Stored after k
  pub known : (ts : Tasks) → Holding ts before n → Cells ts cell_count cells → Known ts (foldl (add same_node) (nodes_in ts before n) (vs ts)) before after r

-- the nodes with these cells and this state, one for each pattern
abbrev pub node_with : Tasks → List ℕ → ℕ → ℕ → model.Node
node_with ts cells state p = record { jobs = jobs_of ts cells; taken = p; state = state }

abbrev pub nodes_with : List ℕ → ℕ → List ℕ → Tasks → List model.Node
nodes_with cells state ps ts = map (node_with ts cells state) ps

-- the targets of these edges join the nodes of n rows
pub record Explored (r : Rules) (edges_of : Plan → List model.Edge) (before : List ℕ) (n : ℕ) (after : List ℕ) (q : rust.Option ℕ) : Type 0 where
  pub known : (P : Plan) → PlanFor P r → Known (tasks_in r) (foldl (add same_node) (nodes_in (tasks_in r) before n) (map (λ e. e.to) (edges_of P))) before after q

-- the edges of a label, and of the first k labels, by the table of next states
abbrev pub edges_by : List ℕ → model.Node → ℕ → Plan → List model.Edge
edges_by next u l P = model.edges_to P u l (next_in (arcs_in next) u.state l)

abbrev pub edges_below : List ℕ → model.Node → ℕ → Plan → List model.Edge
edges_below next u k P = flat_map (λ l. edges_by next u l P) (up_from 0 k)

-- the store holds the start node
pub record Begun (r : Rules) (memory : List ℕ) (n : ℕ) : Type 0 where
  pub held : Holding (tasks_in r) memory n
  pub nodes : nodes_in (tasks_in r) memory n ≡ model.start ∷ []

-- ---- the answer

-- n rows hold the plan's nodes, in order
pub record Holds (P : Plan) (ts : Tasks) (memory : List ℕ) (n : ℕ) : Type 0 where
  pub rows : Holding ts memory n
  pub nodes : nodes_in ts memory n ≡ model.nodes P

-- there is a sound plan with these rules and this table, and n rows hold its nodes
pub record Held (r : Rules) (next memory : List ℕ) (n : ℕ) : Type 0 where
  pub plan : Plan
  pub planned : Planned plan r next
  pub holds : Holds plan (tasks_in r) memory n

-- for every sound plan with these rules and this table: its nodes, or that they are too many; the bytes behind the store are as they were
pub record Discovers (r : Rules) (next before after : List ℕ) (d : rust.Option ℕ) : Type 0 where
  pub answer : (P : Plan) → Planned P r next → option_of d ≡ cond (model.too_large P) none (some (length (model.nodes P)))
  pub held : (n : ℕ) → d ≡ Some n → (P : Plan) → Planned P r next → Holds P (tasks_in r) after n
  pub only : Only 0 store_bytes before after
