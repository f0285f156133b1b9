-- Two automata over the same tasks as one: the reachable pairs of states, what the call answers, and what the plan written admits.
use Rattle.std.specs.Prelude.{◌≡◌, ℕ, ◌^◌, ◌<◌, Bool, false, cond, ◌&&◌, ltb, eqb, length, get_or}
use Rattle.std.specs.Bool.{beq}
use mathlib.Core.List.{List, Memᴰ}
use Rattle.std.proofs.Math.Option.{Option, none, some}
use Rattle.model.specs.Limits.{max_states}
use Rattle.model.specs.Edition.{plan_room}
use Rattle.model.specs.Refusals.{out_of_range, too_many_pairs}
use Rattle.model.specs.Lists.{flat_map, up_from, list_of, same_by}
use Rattle.model.specs.Discovery.{found, number_in}
use Rattle.model.specs.Plan.{Task, Arc, Plan, next_in, read_plan}
use Rattle.model.specs.Schedule.{admits, state_after}
use Rattle.model.specs.Calls.{Writing, refuses, writes, with_room, with_plan}
use Rattle.model.specs.PlanBytes.{arcs_of, WrittenFrom}

-- ---- pairs of states

-- a state of the first automaton and one of the second
pub record Pair : Type 0 where
  pub left : ℕ
  pub right : ℕ

-- "the pair of starts is state 0"
abbrev pub starts : Pair
starts = record { left = 0; right = 0 }

abbrev pub same_pair : Pair → Pair → Bool
same_pair u v = eqb u.left v.left && eqb u.right v.right

-- where two automata lead, if both lead on: "both rules bind"
abbrev pub pair_of : Option ℕ → Option ℕ → Option Pair
pair_of none t = none
pair_of (some s) none = none
pair_of (some s) (some t) = some (record { left = s; right = t })

-- where a label leads a pair, by the arcs of both
abbrev pub pair_next : List Arc → List Arc → Pair → ℕ → Option Pair
pair_next as' bs u l = pair_of (next_in as' u.left l) (next_in bs u.right l)

-- where the labels of so many tasks lead it, "labels upward"
abbrev pub pairs_next : List Arc → List Arc → ℕ → Pair → List Pair
pairs_next as' bs count u = flat_map (λ l. list_of (pair_next as' bs u l)) (up_from 0 (2 ^ count))

-- "States are the reachable pairs, numbered in order of discovery, pairs by number, labels upward": all of them, where they are at most 16
unfoldable pub pairs : Plan → Plan → List Pair
pairs P Q = found same_pair (pairs_next P.arcs Q.arcs (length P.tasks)) starts max_states

-- "more than 16 reachable pairs"
unfoldable pub many_pairs : Plan → Plan → Bool
many_pairs P Q = ltb max_states (length (pairs P Q))

-- a pair by its number
abbrev pub numbered : List Pair → Option Pair → Option ℕ
numbered us none = none
numbered us (some v) = some (number_in same_pair us v)

-- where a label leads the pair s of these, by number
abbrev pub numbered_next : List Arc → List Arc → List Pair → ℕ → ℕ → Option ℕ
numbered_next as' bs us s l = numbered us (pair_next as' bs (get_or us s starts) l)

-- "The policy is the first plan's."
unfoldable pub combined : Plan → Plan → Plan
combined P Q =
    let us = pairs P Q in
    let count = length P.tasks in
    let arcs = arcs_of (length us) count (numbered_next P.arcs Q.arcs us) in
    record { tasks = P.tasks; policy = P.policy; states = length us; arcs = arcs }

-- ---- the call

-- "in A.2 tasks that differ in a lock are different"
abbrev pub same_task : Task → Task → Bool
same_task a b = eqb a.work b.work && eqb a.window b.window && eqb a.value b.value && beq a.locked b.locked

-- "then different tasks are 4"; "15: more than 16 reachable pairs, tried last"
abbrev pub combine_in : Plan → Plan → Writing Plan
combine_in P Q =
    let due = writes (combined P Q) in
    let few = cond (many_pairs P Q) (refuses too_many_pairs) due in
    cond (same_by same_task P.tasks Q.tasks) few (refuses out_of_range)

-- "the first plan's faults come before the second's"; "No graph is built, so 5 is never given." So many bytes of output are lent.
unfoldable pub combine : List ℕ → List ℕ → ℕ → Writing Plan
combine first second lent =
    with_room plan_room lent (with_plan (read_plan first) (λ P. with_plan (read_plan second) (λ Q. combine_in P Q)))

-- ---- what is promised of the plan written, and of the refusal of too many pairs

-- these bytes are a plan written from P that "admits exactly the runs that both admit"
pub record AdmitsBoth (P Q : Plan) (bs : List ℕ) : Type 0 where
  pub plan : Plan
  pub form : WrittenFrom P bs plan
  pub runs : (run : List ℕ) → admits plan run ≡ (admits P run && admits Q run)

-- a run leads both automata to the pair
pub record PairReached (P Q : Plan) (u : Pair) : Type 0 where
  pub run : List ℕ
  pub first : state_after P run 0 ≡ some u.left
  pub second : state_after Q run 0 ≡ some u.right

-- each of these pairs is reached so, and no two of them are the same
pub record PairsReached (P Q : Plan) (us : List Pair) : Type 0 where
  pub each : (u : Pair) → Memᴰ u us → PairReached P Q u
  pub apart : (i j : ℕ) → i < length us → j < length us → get_or us i starts ≡ get_or us j starts → i ≡ j

-- there are "more than 16 reachable pairs"
pub record ManyReached (P Q : Plan) : Type 0 where
  pub us : List Pair
  pub many : max_states < length us
  pub reached : PairsReached P Q us

-- the pairs that are numbered are reachable, and where they are not too many they are all that are
pub record PairsExact (P Q : Plan) : Type 0 where
  pub reached : PairsReached P Q (pairs P Q)
  pub whole : many_pairs P Q ≡ false → (u : Pair) → PairReached P Q u → Memᴰ u (pairs P Q)
