-- Pairs of states as the code keeps them: in the order in which they were found, and their numbers in a table by pair.
use Rattle.std.specs.Prelude.{◌≡◌, cond, ℕ, zero, suc, ◌*◌, ◌/◌, ◌%◌, ◌^◌, ◌≤◌, ◌<◌, ltb, length, get_or, take}
use mathlib.Core.List.{List, map, foldl}
use Rattle.std.specs.Prelude as rust
use Rattle.std.specs.Prelude.{None, Some}
use Rattle.std.proofs.Math.Option.{Option, none, some}
use Rattle.model.specs.Limits.{max_states}
use Rattle.model.specs.Lists.{list_of}
use Rattle.model.specs.Discovery.{add, found}
use Rattle.model.specs.PlanBytes.{arcs_of}
use Rattle.model.specs.Combine.{Pair, starts, same_pair, pair_next, pairs_next, numbered, numbered_next}
use Rattle.plan.specs.View.{label_count, arcs_in, next_of}
use Rattle.combine.specs.declared.Step.{Step}
use Rattle.combine.specs.declared.Row.{Row}
use Rattle.combine.specs.declared.Automaton.{Automaton}

-- ---- a pair as a number

-- as many pairs as there can be
abbrev pub state_pairs : ℕ
state_pairs = max_states * max_states

abbrev pub pair_at : ℕ → Pair
pair_at c = record { left = c / max_states; right = c % max_states }

-- the pair that a label leads to
abbrev pub pair_in : rust.Option ℕ → Option Pair
pair_in None = none
pair_in (Some c) = some (pair_at c)

-- ---- the pairs known

-- a number that is in what a call gives, if it gives something
abbrev pub optional : {A : Type 0} → (A → ℕ) → rust.Option A → rust.Option ℕ
optional f None = None
optional f (Some a) = Some (f a)

-- those of the first n places
abbrev pub pairs_in : List ℕ → ℕ → List Pair
pairs_in order n = map pair_at (take n order)

-- the table says of each of these n pairs its place and 1, and of every other 0
pub record Numbering (order numbers : List ℕ) (n : ℕ) : Type 0 where
  pub few : n ≤ max_states
  pub room : length order ≡ max_states
  pub size : length numbers ≡ state_pairs
  pub back : (i : ℕ) → i < n → get_or numbers (get_or order i 0) 0 ≡ suc i
  pub only : (c i : ℕ) → get_or numbers c 0 ≡ suc i → (i < n) × (get_or order i 0 ≡ c)

-- r places hold these pairs, in order, with their numbers, or they are too many
pub record PairsKnown (us : List Pair) (order numbers : List ℕ) (r : rust.Option ℕ) : Type 0 where
  pub held : (n : ℕ) → r ≡ Some n → Numbering order numbers n × (pairs_in order n ≡ us)
  pub many : r ≡ None → max_states < length us

-- ---- where labels lead, by the tables of next states of both automata

abbrev pub pair_leads : List ℕ → List ℕ → Pair → ℕ → Option Pair
pair_leads first second = pair_next (arcs_in first) (arcs_in second)

abbrev pub pairs_after : List ℕ → List ℕ → ℕ → Pair → List Pair
pairs_after first second = pairs_next (arcs_in first) (arcs_in second)

-- the pair that a label leads to joins those known, and the entry says its number
pub record LabelFollowed (first second : List ℕ) (u : Pair) (l : ℕ) (us : List Pair) (order numbers : List ℕ) (r : rust.Option Step) : Type 0 where
  pub known : PairsKnown (foldl (add same_pair) us (list_of (pair_leads first second u l))) order numbers (optional (λ (s : Step). s.known) r)
  pub entry : (s : Step) → r ≡ Some s → next_of s.entry ≡ numbered (pairs_in order s.known) (pair_leads first second u l)

-- the pairs that the labels of so many tasks lead to join those known, and the entries say their numbers
pub record PairExplored (first second : List ℕ) (count : ℕ) (u : Pair) (us : List Pair) (order numbers : List ℕ) (r : rust.Option Row) : Type 0 where
  pub known : PairsKnown (foldl (add same_pair) us (pairs_after first second count u)) order numbers (optional (λ (w : Row). w.known) r)
  pub size : (w : Row) → r ≡ Some w → length w.entries ≡ label_count
  pub entry : (w : Row) → r ≡ Some w → (l : ℕ) →
      next_of (get_or w.entries l 0) ≡ cond (ltb l (2 ^ count)) (numbered (pairs_in order w.known) (pair_leads first second u l)) none

-- the reachable pairs of both automata over so many tasks
abbrev pub reached_pairs : List ℕ → List ℕ → ℕ → List Pair
reached_pairs first second count = found same_pair (pairs_after first second count) starts max_states

-- the automaton of the reachable pairs, by their numbers, or they are too many
pub record IsProduct (first second : List ℕ) (count : ℕ) (r : rust.Option Automaton) : Type 0 where
  pub states : (a : Automaton) → r ≡ Some a → (a.states ≡ length (reached_pairs first second count)) × (a.states ≤ max_states)
  pub many : r ≡ None → max_states < length (reached_pairs first second count)
  pub arcs : (a : Automaton) → r ≡ Some a →
      arcs_in a.next
      ≡ arcs_of (length (reached_pairs first second count)) count (numbered_next (arcs_in first) (arcs_in second) (reached_pairs first second count))
