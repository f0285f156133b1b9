-- What a search for distances has found, in lent memory behind the store.
use Rattle.std.specs.Prelude as rust
use Rattle.std.specs.Prelude.{◌≡◌, Bool, true, false, cond, None, Some, List, [], ◌∷◌, ◌++◌, map, ℕ, ◌+◌, ◌*◌, ◌<◌, ◌≤◌, eqb, pos, length, get_or}
use Rattle.model.specs.Bytes.{number, signed, part, Only}
use Rattle.model.specs.Limits.{max_nodes, max_steps}
use Rattle.model.specs.Lists.{up_from}
use Rattle.store.specs.Store.{store_bytes}
use Rattle.theory.specs.Search as search
use Rattle.theory.specs.Search.{State, above, Before, Upward, trail}
use Rattle.links.specs.declared.Link.{Link}
use Rattle.links.specs.declared.Taken.{Taken}
use Rattle.links.specs.declared.Mark.{Mark}
use Rattle.links.specs.declared.Mark.TheVariants.{Unknown, Waiting, Tried}

-- the bytes of a link and of a step
abbrev pub link_bytes : ℕ
link_bytes = 12

abbrev pub taken_bytes : ℕ
taken_bytes = 3

-- The layout of the lent work memory of 65,536 bytes: rows (39 each) to 39,936, the index by hash to 41,984 and by row to 44,032, the links (12
-- each) to 56,320, the steps (3 each) to 59,392 (`links/proofs/WorkMemory`).
abbrev pub links_at : ℕ
links_at = store_bytes

abbrev pub links_size : ℕ
links_size = link_bytes * max_nodes

abbrev pub steps_at : ℕ
steps_at = links_at + links_size

abbrev pub steps_size : ℕ
steps_size = taken_bytes * max_steps

abbrev pub links_end : ℕ
links_end = steps_at + steps_size

-- the byte of a mark
abbrev pub byte_of : Mark → ℕ
byte_of Unknown = 0
byte_of Waiting = 1
byte_of Tried = 2

-- the mark that a byte stands for: any but the first two is that of a node whose edges have been tried
abbrev pub mark_of : ℕ → Mark
mark_of b = cond (eqb b 0) Unknown (cond (eqb b 1) Waiting Tried)

-- the link to the node v: the distance in eight bytes, the parent in two, the label and the mark
abbrev pub link_place : ℕ → ℕ
link_place v = links_at + link_bytes * v

-- the byte of its mark
abbrev pub mark_byte : List ℕ → ℕ → ℕ
mark_byte memory v = get_or memory (link_place v + 11) 0

abbrev pub link_in : List ℕ → ℕ → Link
link_in memory v = record {
  distance = signed (number (part memory (link_place v) 8));
  parent = number (part memory (link_place v + 8) 2);
  label = get_or memory (link_place v + 10) 0;
  mark = mark_of (mark_byte memory v);
}

-- the step i: the node in two bytes, and the label
abbrev pub step_place : ℕ → ℕ
step_place i = steps_at + taken_bytes * i

abbrev pub taken_in : List ℕ → ℕ → Taken
taken_in memory i = record { node = number (part memory (step_place i) 2); label = get_or memory (step_place i + 2) 0 }

-- whether a walk is known, and whether the edges are still to be tried
abbrev pub is_known : Mark → Bool
is_known Unknown = false
is_known Waiting = true
is_known Tried = true

abbrev pub is_waiting : Mark → Bool
is_waiting Unknown = false
is_waiting Waiting = true
is_waiting Tried = false

-- the state of the search
abbrev pub state_in : List ℕ → State
state_in memory = record {
  known = λ v. is_known (link_in memory v).mark;
  waiting = λ v. is_waiting (link_in memory v).mark;
  dist = λ v. (link_in memory v).distance;
  parent = λ v. (link_in memory v).parent;
  label = λ v. (link_in memory v).label;
}

-- the first k steps
abbrev pub taken_of : Taken → search.Taken
taken_of s = record { node = s.node; label = s.label }

abbrev pub first_steps : List ℕ → ℕ → List search.Taken
first_steps memory k = map (λ i. taken_of (taken_in memory i)) (up_from 0 k)

-- a link with another mark
abbrev pub marked : Mark → Link → Link
marked mark l = record { distance = l.distance; parent = l.parent; label = l.label; mark = mark }

-- the link to v is this one, every other is as it was, and so is every byte of no link
pub record Puts (v : ℕ) (link : Link) (before after : List ℕ) : Type 0 where
  pub links : (x : ℕ) → x < max_nodes → link_in after x ≡ cond (eqb x v) link (link_in before x)
  pub only : Only links_at links_size before after

-- and its mark is written as the mark's own byte; the byte of every other mark is as it was
pub record PutsMark (v : ℕ) (link : Link) (before after : List ℕ) : Type 0 where
  pub puts : Puts v link before after
  pub marks : (x : ℕ) → x < max_nodes → mark_byte after x ≡ cond (eqb x v) (byte_of link.mark) (mark_byte before x)

-- the step i is this one, every other is as it was, and so is every byte of no step
pub record PutsStep (i : ℕ) (step : Taken) (before after : List ℕ) : Type 0 where
  pub steps : (x : ℕ) → x < max_steps → taken_in after x ≡ cond (eqb x i) step (taken_in before x)
  pub only : Only steps_at steps_size before after

-- ---- the search

-- at the start: no link, and the link to the start node
abbrev pub no_link : Link
no_link = record { distance = pos 0; parent = 0; label = 0; mark = Unknown }

abbrev pub start_link : Link
start_link = record { distance = pos 0; parent = 0; label = 0; mark = Waiting }

-- the start node alone is known, and every byte of no link is as it was
pub record Begins (before after : List ℕ) : Type 0 where
  pub links : (x : ℕ) → x < max_nodes → link_in after x ≡ cond (eqb x 0) start_link no_link
  pub only : Only links_at links_size before after

-- the way up from u by the parents leads to the start node
pub record Climbs (memory : List ℕ) (u : ℕ) : Type 0 where
  pub count : ℕ
  pub few : count ≤ max_nodes
  pub room : links_end ≤ length memory
  pub upward : Upward count (state_in memory).known (state_in memory).parent
  pub below : u < count
  pub known : (state_in memory).known u ≡ true

-- v is not on the way up from u to the start node, or stands j steps above u
abbrev pub WayUp : List ℕ → ℕ → ℕ → rust.Option ℕ → Type 0
WayUp memory u v None = (v ≡ 0 → ⊥) × (k : ℕ) × (above (state_in memory).parent k u ≡ 0) × Before (state_in memory).parent v k u
WayUp memory u v (Some j) = (above (state_in memory).parent j u ≡ v) × Before (state_in memory).parent 0 j u

-- the steps are those down to u from the node j steps above it, and one with a label; every byte of no step is as it was
pub record Closes (u label j : ℕ) (before after : List ℕ) : Type 0 where
  pub steps : first_steps after (j + 1) ≡ trail (state_in before).parent (state_in before).label j u ++ (record { node = u; label = label } ∷ [])
  pub only : Only steps_at steps_size before after
