-- What the checker asks of a certificate, and what it answers.
use Rattle.std.specs.Prelude.{ℕ, zero, suc, ◌+◌, ◌*◌, ◌%◌, Bool, true, false, cond, ◌&&◌, ◌||◌, List, [], ◌∷◌, ◌++◌, leb, ltb, eqb, ℤ, pos, ◌+ℤ◌, ◌-ℤ◌, nat_abs, length, get_or, take, replicate}
use Rattle.std.proofs.Math.Option.{Option, none, some}
use Rattle.std.specs.Int.Signed.{le_z}
use Rattle.model.specs.Limits.{max_tasks, max_p, max_q, max_potential, work_room}
use Rattle.model.specs.Refusals.{too_many_nodes, bad_form, bad_fraction, bad_count, bad_potential, bad_cycle, short_memory}
use Rattle.model.specs.Lists.{all, same_numbers}
use Rattle.model.specs.Discovery.{number_in}
use Rattle.model.specs.Plan.{Plan, PlanAnswer, faulty, sound, read_plan}
use Rattle.model.specs.Graph.{Node, Edge, start, nodes, too_large, edges, same_node}
use Rattle.model.specs.Certificate.{Certificate, Step, read_certificate}

-- ---- the fraction

-- Euclid's algorithm; each turn lowers b, so one turn more than b is enough
abbrev pub gcd_in : ℕ → ℕ → ℕ → ℕ
gcd_in zero a b = a
gcd_in (suc n) a zero = a
gcd_in (suc n) a (suc b) = gcd_in n (suc b) (a % suc b)

unfoldable pub gcd : ℕ → ℕ → ℕ
gcd a b = gcd_in (suc b) a b

-- "the fraction is in lowest terms with p ≤ 67,107,840 and 1 ≤ q ≤ 268,431,360, or is 1/0"
unfoldable pub fraction_ok : ℕ → ℕ → Bool
fraction_ok p q = (eqb p 1 && eqb q 0) || (eqb (gcd p q) 1 && leb p max_p && leb 1 q && leb q max_q)

-- ---- the potentials

-- the potential of the node i
abbrev pub potential_at : List ℤ → ℕ → ℤ
potential_at zs i = get_or zs i (pos 0)

-- "every potential lies within ±2^56"
abbrev pub within_limit : ℤ → Bool
within_limit z = leb (nat_abs z) max_potential

-- "q × policy gain − p × clairvoyant gain"
abbrev pub weight : ℕ → ℕ → Edge → ℤ
weight p q e = pos (q * e.kept) -ℤ pos (p * e.ideal)

-- "on every edge from u to v, potential(u) + q × policy gain − p × clairvoyant gain ≥ potential(v)"
abbrev pub edge_ok : List Node → ℕ → ℕ → List ℤ → ℕ → Edge → Bool
edge_ok ns p q zs u e = le_z (potential_at zs (number_in same_node ns e.to)) (potential_at zs u +ℤ weight p q e)

-- every edge of these nodes, the first of them numbered u
abbrev pub edges_ok_from : Plan → List Node → ℕ → ℕ → List ℤ → ℕ → List Node → Bool
edges_ok_from P ns p q zs u [] = true
edges_ok_from P ns p q zs u (v ∷ vs) = all (edge_ok ns p q zs u) (edges P v) && edges_ok_from P ns p q zs (suc u) vs

unfoldable pub potentials_ok : Plan → List Node → ℕ → ℕ → List ℤ → Bool
potentials_ok P ns p q zs = all within_limit zs && edges_ok_from P ns p q zs 0 ns

-- ---- the cycle

-- an edge's masks as a step has them, "0 for a task the plan lacks"
abbrev pub padded : List ℕ → List ℕ
padded ms = take max_tasks (ms ++ replicate max_tasks 0)

abbrev pub is_step : Step → Edge → Bool
is_step s e = eqb e.label s.label && same_numbers (padded e.masks) s.masks

-- the edge of a step, if it is among these
abbrev pub find_step : Step → List Edge → Option Edge
find_step s [] = none
find_step s (e ∷ es) = let later = find_step s es in cond (is_step s e) (some e) later

-- where steps lead, and the two sums of their gains
pub record Reached : Type 0 where
  pub at : Node
  pub kept : ℕ
  pub ideal : ℕ

-- none where a step is not an edge
unfoldable pub follow : Plan → List Step → Reached → Option Reached
follow P [] r = some r
follow P (s ∷ ss) r =
    elim (find_step s (edges P r.at)) [
      | none ↦ none
      | some e ↦ follow P ss (record { at = e.to; kept = r.kept + e.kept; ideal = r.ideal + e.ideal })
    ]

-- "leading .. back to it, their clairvoyant sum is above 0, and p × that sum = q × the policy sum"
abbrev pub closes : ℕ → ℕ → Node → Option Reached → Bool
closes p q u none = false
closes p q u (some r) = same_node r.at u && ltb 0 r.ideal && eqb (p * r.ideal) (q * r.kept)

-- "for q > 0, the steps are edges leading from the named node back to it"
unfoldable pub cycle_ok : Plan → List Node → Certificate → Bool
cycle_ok P ns c =
    let u = get_or ns c.node start in
    let ends = follow P c.steps (record { at = u; kept = 0; ideal = 0 }) in
    cond (eqb c.q 0) true (ltb c.node (length ns) && closes c.p c.q u ends)

-- ---- the answer

-- the smaller of m and the least of these
abbrev pub least : List ℤ → ℤ → ℤ
least [] m = m
least (z ∷ zs) m = least zs (cond (le_z z m) z m)

-- "K is the start node's potential less the smallest."
unfoldable pub allowance : List ℤ → ℕ
allowance zs = nat_abs (potential_at zs 0 -ℤ least zs (potential_at zs 0))

pub data CheckAnswer : Type 0 where
  refused : ℕ → CheckAnswer
  share : ℕ → ℕ → ℕ → ℕ → CheckAnswer  -- p, q, N, K

-- 7, 8, 9 and 10 in turn, each tried over the whole certificate
unfoldable pub verdict : Plan → Certificate → CheckAnswer
verdict P c =
    let ns = nodes P in
    let zs = c.potentials in
    let answer = share c.p c.q (length zs) (allowance zs) in
    let cycle = cond (cycle_ok P ns c) answer (refused bad_cycle) in
    let potentials = cond (potentials_ok P ns c.p c.q zs) cycle (refused bad_potential) in
    let count = cond (eqb (length zs) (length ns)) potentials (refused bad_count) in
    cond (fraction_ok c.p c.q) count (refused bad_fraction)

abbrev pub check_read : Plan → Option Certificate → CheckAnswer
check_read P none = refused bad_form
check_read P (some c) = verdict P c

abbrev pub check_plan : PlanAnswer → List ℕ → CheckAnswer
check_plan (faulty n) certificate = refused n
check_plan (sound P) certificate =
    let answer = check_read P (read_certificate certificate) in
    cond (too_large P) (refused too_many_nodes) answer

-- The answer for plan and certificate bytes, with so many bytes of work memory lent: "Order: 11; the plan's first bad command ..;
-- 5; then 6 to 10".
unfoldable pub check : List ℕ → List ℕ → ℕ → CheckAnswer
check plan certificate lent =
    let answer = check_plan (read_plan plan) certificate in
    cond (ltb lent work_room) (refused short_memory) answer
