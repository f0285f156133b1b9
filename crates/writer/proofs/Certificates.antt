-- A solution's certificate may be written. Assumes nothing.
use mathlib.Core.Path.{◌≡◌, refl, sym, ap, subst, subst₂, ◌∙◌}
use mathlib.Core.Bool.{false}
use mathlib.Core.List.{List, [], ◌∷◌, map}
use mathlib.Core.Option.{some}
use Prim.Native.Nat.{ℕ, zero, suc, ◌+◌, ◌*◌, ◌≤◌, ◌<◌}
use native.Mathlib.Nat.{not-suc-le-zero}
use native.Mathlib.Omega.{arith}
use lib.ListN.{length}
use Rattle.model.specs.Bytes.{overwrite}
use Rattle.model.specs.Certificate.{Certificate}
use Rattle.model.specs.Graph.{Edge, nodes, too_large}
use Rattle.model.specs.Limits.{max_nodes, certificate_room}
use Rattle.model.specs.Passes.{beginning, PassesTo}
use Rattle.model.specs.Plan.{Plan}
use Rattle.model.specs.Walk.{kept, ideal}
use Rattle.theory.specs.Search.{Quiet}
use Rattle.theory.specs.Lightest.{Along, step_of}
use Rattle.theory.proofs.Circuits.{along-length, along-first, along-same}
use Rattle.theory.proofs.Distances.{AllSmallest}
use Rattle.theory.proofs.Searched.{told-all}
use Rattle.theory.proofs.Settled.{length-distances, settled_known, settled_smallest, solved-bare, solved-cycle}
use Rattle.theory.proofs.Sound.{PlanSound, sound-plan}
use Rattle.certificate_bytes.specs.Pieces.{end_bytes}
use Rattle.policy.specs.View.{tasks_in}
use Rattle.policy.specs.declared.Rules.{Rules}
use Rattle.discovery.proofs.Held.{held-count}
use Rattle.potentials.proofs.Numbers.{nodes-few}
use Rattle.links.specs.Links.{links_end, taken_in, first_steps, state_in}
use Rattle.distances.specs.Distances.{SearchIn}
use Rattle.circuit.specs.Circuit.{Turns, Turning}
use Rattle.circuit.proofs.Steps.{steps-length}
use Rattle.solution.specs.declared.Solution.{Solution}
use Rattle.solution.specs.Solution.{claim_of, Tight, Solving}
use Rattle.writer.specs.Writer.{distances_in, WritesCycle, Written}
use Rattle.writer.proofs.Bytes.{potentials_end, cycle_end, fronted, bare-length, bare-written, full_length, full_written}

-- ---- the steps in memory

module _ {P : Plan} (m : List ℕ) where
  -- an edge for each step
  pub edges-count : (k : ℕ) {v : ℕ} {es : List Edge} → Along P v (first_steps m k) v es → length es ≡ k
  edges-count k a = along-length a ∙ steps-length m k

  -- they start at the first one's node
  pub first-node : (k : ℕ) {v : ℕ} {es : List Edge} → 0 < k → Along P v (first_steps m k) v es → v ≡ (taken_in m 0).node
  first-node zero h a = absurd (not-suc-le-zero h)
  first-node (suc k) h a = along-first a

-- edges that gain are some
gain-some : (es : List Edge) → 0 < ideal es → 0 < length es
gain-some [] h = absurd (not-suc-le-zero h)
gain-some (e ∷ es) h = omega arith

-- ---- the solution

module _ {P : Plan} {r : Rules} {next m : List ℕ} {n : ℕ} {s : Solution} (h : Solving P r next m n s) where
  nodes-count : length (nodes P) ≡ n
  nodes-count = held-count (tasks_in r) m n (nodes P) h.holds.nodes

  pub count-few : n ≤ max_nodes
  count-few = h.holds.rows.index.few

  fits : too_large P ≡ false
  fits = nodes-few P (tasks_in r) m n h.holds

  sd : PlanSound P
  sd = sound-plan P h.planned.sound

  count : length (distances_in m n) ≡ n
  count = length-distances n (state_in m)

  sized : length (distances_in m n) ≡ length (nodes P)
  sized = count ∙ sym nodes-count

  search : SearchIn P (claim_of s (length (nodes P))) m
  search = subst (λ (k : ℕ). SearchIn P (claim_of s k) m) (sym nodes-count) h.search

  quiet : Quiet (length (nodes P)) (state_in m)
  quiet = subst (λ (k : ℕ). Quiet k (state_in m)) (sym nodes-count) h.quiet

  -- the distances are the smallest costs
  smallest : AllSmallest P s.fraction.p s.fraction.q (distances_in m n)
  smallest = subst (λ (k : ℕ). AllSmallest P s.fraction.p s.fraction.q (distances_in m k)) nodes-count (settled_smallest P sd fits search quiet)

  -- all are known, so they are what the passes find
  passed : PassesTo P s.fraction.p s.fraction.q (beginning (length (nodes P))) (map some (distances_in m n)) s.passes
  passed =
      subst₂ (λ (k : ℕ) ds. PassesTo P s.fraction.p s.fraction.q (beginning k) ds s.passes) (sym nodes-count)
      (told-all n (state_in m) (λ v l. settled_known P sd fits search quiet v (omega (arith, l, nodes-count)))) h.passed

  -- after the head and the potentials, the end for q = 0
  pub written_bare : s.fraction.q ≡ 0 → {before after : List ℕ} → certificate_room ≤ length before →
      after ≡ overwrite (fronted s.fraction.p s.fraction.q n (distances_in m n) before) (potentials_end n) end_bytes →
      Written P s.passes before after (potentials_end n + 1)
  written_bare none {before} room is = record {
    certificate = bare;
    solved = solved-bare P sd fits h.fraction sized smallest passed none;
    bytes = is ∙ bare-written bare count none before (omega (arith, room, count-few));
    size = sym (bare-length bare count none);
  }
    where
      bare : Certificate
      bare = record { p = s.fraction.p; q = s.fraction.q; potentials = distances_in m n; node = 0; steps = [] }

  module _ (positive : 0 < s.fraction.q) where
    pub steps-few : s.steps ≤ n
    steps-few = (h.cycle positive).few

    pub steps-some : 0 < s.steps
    steps-some = omega (arith, gain-some (h.cycle positive).edges (h.cycle positive).some, edges-count m s.steps (h.cycle positive).along)

    pub turns : Turns P r next m n s.steps (h.cycle positive).node (h.cycle positive).edges
    turns = record { planned = h.planned; holds = h.holds; below = (h.cycle positive).nodes; along = (h.cycle positive).along }

    pub turning : links_end ≤ length m → Turning r m s.steps
    turning room = record {
      room = room;
      few = omega (arith, steps-few, count-few);
      plan = P;
      next = next;
      count = n;
      node = (h.cycle positive).node;
      edges = (h.cycle positive).edges;
      turns = turns;
    }

    -- and for q > 0 the cycle and the end
    pub written_full : {before middle after : List ℕ} → certificate_room ≤ length before →
        WritesCycle P m s.steps (h.cycle positive).node (fronted s.fraction.p s.fraction.q n (distances_in m n) before) (potentials_end n) middle →
        after ≡ overwrite middle (cycle_end n s.steps) end_bytes →
        Written P s.passes before after (cycle_end n s.steps + 1)
    written_full {before} room w is = record {
      certificate = full;
      solved =
          solved-cycle P sd fits h.fraction sized smallest passed positive w.along (omega (arith, t.below, nodes-count))
          (omega (arith, steps-length m s.steps, steps-few, count-few)) (omega (arith, same.1, t.some))
          (ap (λ (x : ℕ). s.fraction.p * x) same.1 ∙ t.exact ∙ ap (λ (x : ℕ). s.fraction.q * x) (sym same.0));
      bytes =
          is ∙ ap (λ x. overwrite x (cycle_end n s.steps) end_bytes) w.bytes
          ∙ full_written full count positive w.edges refl long before (omega (arith, room, steps-few, count-few));
      size = sym (full_length full count positive w.edges refl long);
    }
      where
        t : Tight P n m s.fraction.p s.fraction.q s.steps
        t = h.cycle positive

        full : Certificate
        full = record { p = s.fraction.p; q = s.fraction.q; potentials = distances_in m n; node = t.node; steps = map step_of w.edges }

        same : (kept w.edges ≡ kept t.edges) × (ideal w.edges ≡ ideal t.edges)
        same = along-same w.along t.along

        long : length w.edges ≡ s.steps
        long = edges-count m s.steps w.along
