-- An edge found by its label and masks: it is an edge of that label, by the choice with those masks.
-- Assumes nothing.
use mathlib.Core.Path.{◌≡◌, refl, sym, ◌∙◌, ap, subst}
use mathlib.Core.Bool.{Bool, true, false, cond, ◌&&◌}
use mathlib.Core.List.{List, [], ◌∷◌, ◌++◌, map, Memᴰ}
use mathlib.Core.Option.{Option, none, some, or_else}
use Prim.Native.Nat.{ℕ, suc, ◌+◌, ◌-◌, ◌^◌, ◌<◌, ◌≤◌}
use native.Mathlib.Nat.{zero-add}
use native.Mathlib.Decide.{dec_lt}
use native.Mathlib.Omega.{arith}
use lib.ListN.{length}
use borrow.Author.Tests.{eq-eqb, ne_eqb}
use Rattle.model.specs.Graph as model
use Rattle.model.specs.Certificate.{Step}
use Rattle.model.specs.Check.{padded, is_step, find_step}
use Rattle.model.specs.Graph.{choices, edge_of, edges_to, edges_at, edges}
use Rattle.model.specs.Limits.{max_states}
use Rattle.model.specs.Lists.{same_numbers, flat_map, up_from}
use Rattle.model.specs.Plan.{Plan, next_in}
use Rattle.model.specs.Slot.{Done, slot, ready}
use Rattle.model.proofs.Lists.{flat_map-append, up_from-append, mem-of-up_from}
use Rattle.theory.proofs.Edges.{mem-edges_at}
use Rattle.theory.proofs.Sound.{sound-plan, label-below}
use Rattle.std.specs.Prelude.{None}
use Rattle.plan.specs.View.{arcs_in, TableFits}
use Rattle.policy.specs.View.{jobs_of, tasks_in, Ruled}
use Rattle.policy.proofs.Plans.{states_fit_lem}
use Rattle.policy.specs.declared.Rules.{Rules}
use Rattle.node.specs.declared.Node.{Node}
use Rattle.graph.specs.View.{node_of, Planned, plan_by}
use Rattle.graph.specs.Choice.{Led, find_choice, led_by, choice_of}
use Rattle.graph.specs.Edge.{End, end_in, Stepped}

module _ (s : Step) where
  -- ---- among the edges of the label

  -- an edge is sought among the first, then among the others
  find_append : (es fs : List model.Edge) → find_step s (es ++ fs) ≡ or_else (find_step s es) (find_step s fs)
  unfolding or_else
  find_append [] fs = refl
  find_append (e ∷ es) fs = by (is_step s e) (find_append es fs)
    where
      by : (b : Bool) → find_step s (es ++ fs) ≡ or_else (find_step s es) (find_step s fs)
          → cond b (some e) (find_step s (es ++ fs)) ≡ or_else (cond b (some e) (find_step s es)) (find_step s fs)
      by true h = refl
      by false h = h

  -- of edges with other labels, none is found
  find_none : (es : List model.Edge) → ((e : model.Edge) → Memᴰ e es → e.label ≡ s.label → ⊥) → find_step s es ≡ none
  find_none [] h = refl
  find_none (e ∷ es) h =
      ap (λ b. cond (b && same_numbers (padded e.masks) s.masks) (some e) (find_step s es)) (ne_eqb e.label s.label (h e (Memᴰ.head refl)))
      ∙ find_none es (λ f m. h f (Memᴰ.tail m))

  module _ (P : Plan) (u : model.Node) where
    -- another label has no such edge
    find_other : (l : ℕ) → (l ≡ s.label → ⊥) → find_step s (edges_at P u l) ≡ none
    unfolding edge_of
    find_other l ne =
        find_none (edges_at P u l) (λ e m same. ne (sym (ap (λ (f : model.Edge). f.label) ((mem-edges_at P u l e).0 m).is) ∙ same))

    find_others : (ls : List ℕ) → ((l : ℕ) → Memᴰ l ls → l ≡ s.label → ⊥) → find_step s (flat_map (edges_at P u) ls) ≡ none
    unfolding or_else
    find_others [] ne = refl
    find_others (l ∷ ls) ne =
        find_append (edges_at P u l) (flat_map (edges_at P u) ls)
        ∙ ap (λ o. or_else o (find_step s (flat_map (edges_at P u) ls))) (find_other l (ne l (Memᴰ.head refl)))
        ∙ find_others ls (λ k m. ne k (Memᴰ.tail m))

    -- a label of the plan's tasks: those before and after it have no such edge
    find_label : s.label < 2 ^ length P.tasks → find_step s (edges P u) ≡ find_step s (edges_at P u s.label)
    unfolding edges or_else
    find_label lt =
        ap (λ k. found (up_from 0 k)) size
        ∙ ap found (up_from-append 0 l (suc more) ∙ ap (λ k. up_from 0 l ++ up_from k (suc more)) (zero-add l))
        ∙ ap (find_step s) (flat_map-append (edges_at P u) (up_from 0 l) (l ∷ up_from (suc l) more))
        ∙ find_append (flat_map (edges_at P u) (up_from 0 l)) (edges_at P u l ++ flat_map (edges_at P u) (up_from (suc l) more))
        ∙ ap (λ o. or_else o (find_step s (edges_at P u l ++ flat_map (edges_at P u) (up_from (suc l) more))))
        (find_others (up_from 0 l) (λ k m e. omega (arith, mem-of-up_from 0 l m)))
        ∙ find_append (edges_at P u l) (flat_map (edges_at P u) (up_from (suc l) more))
        ∙ ap (or_else (find_step s (edges_at P u l))) (find_others (up_from (suc l) more) (λ k m e. omega (arith, mem-of-up_from (suc l) more m)))
        ∙ or-none (find_step s (edges_at P u l))
      where
        l : ℕ
        l = s.label

        more : ℕ
        more = 2 ^ length P.tasks - suc l

        size : 2 ^ length P.tasks ≡ l + suc more
        size = omega arith

        found : List ℕ → Option model.Edge
        found ls = find_step s (flat_map (edges_at P u) ls)

        or-none : (o : Option model.Edge) → or_else o none ≡ o
        or-none none = refl
        or-none (some e) = refl

    -- any other has no edge
    find_past : 2 ^ length P.tasks ≤ s.label → find_step s (edges P u) ≡ none
    unfolding edges
    find_past le = find_others (up_from 0 (2 ^ length P.tasks)) (λ l m e. omega (arith, mem-of-up_from 0 (2 ^ length P.tasks) m))

    -- where no other label is admitted
    find_at : ((t : ℕ) → next_in P.arcs u.state s.label ≡ some t → s.label < 2 ^ length P.tasks) →
        find_step s (edges P u) ≡ find_step s (edges_at P u s.label)
    unfolding edges_at
    find_at low = by (dec_lt s.label (2 ^ length P.tasks))
      where
        idle : 2 ^ length P.tasks ≤ s.label → (o : Option ℕ) → next_in P.arcs u.state s.label ≡ o → find_step s (edges_to P u s.label o) ≡ none
        idle le none e = refl
        idle le (some t) e = absurd (omega (arith, low t e))

        by : Dec (s.label < 2 ^ length P.tasks) → find_step s (edges P u) ≡ find_step s (edges_at P u s.label)
        by (yes lt) = find_label lt
        by (no ge) = find_past (omega arith) ∙ sym (idle (omega arith) (next_in P.arcs u.state s.label) refl)

-- ---- by the choice

-- where a slot, a state and a choice lead
abbrev pub end_by : Done → ℕ → Option Led → Option End
end_by d t none = none
end_by d t (some c) = some (record { to = record { jobs = d.jobs; taken = c.pattern; state = t }; kept = d.gain; ideal = c.gain })

-- the edge is that of the choice with the step's masks
find_choice_lem : (P : Plan) (u : model.Node) (s : Step) (t : ℕ) (cs : List (List ℕ))
    → end_in (find_step s (map (edge_of P u s.label t) cs)) ≡ end_by (slot P u.jobs s.label) t (led_by P.tasks u.taken (find_choice s.masks cs))
unfolding edge_of
find_choice_lem P u s t [] = refl
find_choice_lem P u s t (ms ∷ cs) =
    ap (λ b. end_in (cond (b && same_numbers (padded ms) s.masks) (some e) later)) (eq-eqb s.label s.label refl)
    ∙ by (same_numbers (padded ms) s.masks) (find_choice_lem P u s t cs)
  where
    e : model.Edge
    e = edge_of P u s.label t ms

    later : Option model.Edge
    later = find_step s (map (edge_of P u s.label t) cs)

    ends : Option (List ℕ) → Option End
    ends o = end_by (slot P u.jobs s.label) t (led_by P.tasks u.taken o)

    by : (b : Bool) → end_in later ≡ ends (find_choice s.masks cs) → end_in (cond b (some e) later) ≡ ends (cond b (some ms) (find_choice s.masks cs))
    by true h = refl
    by false h = h

module _ (r : Rules) (size : length (tasks_in r) ≡ r.tasks.count) (next : List ℕ) (table : TableFits next r.tasks.count) (u : Node) (l : ℕ) (ms : List ℕ) where
  abbrev P : Plan
  P = plan_by r next max_states

  abbrev step : Step
  step = record { label = l; masks = ms }

  abbrev node : model.Node
  node = node_of (tasks_in r) u

  -- the edges of the state that the table has
  find_next : (o : Option ℕ) → o ≡ next_in (arcs_in next) u.state l → find_step step (edges P node) ≡ find_step step (edges_to P node l o)
  unfolding edges_at
  find_next o e =
      find_at step P node (λ t admitted. subst (λ (n : ℕ). l < 2 ^ n) (sym size) (table.labels u.state l t admitted))
      ∙ ap (λ k. find_step step (edges_to P node l k)) (sym e)

  -- no next state, no edge
  pub edge_none : none ≡ next_in (arcs_in next) u.state l → end_in (find_step step (edges P node)) ≡ none
  edge_none e = ap end_in (find_next none e)

  -- the edge leads where the slot, the next state and the choice lead
  pub edge-some : (t : ℕ) → some t ≡ next_in (arcs_in next) u.state l → (d : Done) → d ≡ slot P (jobs_of (tasks_in r) u.cells) l
      → (o : Option Led) → o ≡ choice_of (tasks_in r) l u.taken ms → end_in (find_step step (edges P node)) ≡ end_by d t o
  unfolding choice_of
  edge-some t e d slotted o chosen =
      ap end_in (find_next (some t) e) ∙ find_choice_lem P node step t (choices P.tasks l u.taken)
      ∙ sym (λ i. end_by (slotted i) t (chosen i))

-- where there is no edge, none is right
pub stepped-none : (next : List ℕ) (r : Rules) (u : Node) (l : ℕ) (ms : List ℕ)
    → end_in (find_step (record { label = l; masks = ms }) (edges (plan_by r next max_states) (node_of (tasks_in r) u))) ≡ none → Stepped next r u l ms None
stepped-none next r u l ms missing = record { edge = sym missing; fits = λ e is. cc }

-- ---- the plans of a table

-- edges do not depend on the number of states
states_free : (r : Rules) (next : List ℕ) (a b : ℕ) (u : model.Node) → edges (plan_by r next a) u ≡ edges (plan_by r next b) u
unfolding edges edges_at edge_of slot ready
states_free r next a b u =
    ap (λ (f : ℕ → List model.Edge). flat_map f (up_from 0 (2 ^ length (tasks_in r)))) (λ i l. to l (next_in (arcs_in next) u.state l) i)
  where
    to : (l : ℕ) (o : Option ℕ) → edges_to (plan_by r next a) u l o ≡ edges_to (plan_by r next b) u l o
    to l none = refl
    to l (some t) = refl

module _ {P : Plan} {r : Rules} {next : List ℕ} (planned : Planned P r next) where
  -- a plan's edges are those of its rules and its table
  pub planned-edges : (u : model.Node) → edges P u ≡ edges (plan_by r next max_states) u
  planned-edges u =
      ap (λ (Q : Plan). edges Q u)
      (λ i. record { tasks = planned.for.tasks i; policy = planned.for.policy i; states = P.states; arcs = planned.arcs i })
      ∙ states_free r next P.states max_states u

  -- and a sound plan's table fits
  pub planned-table : Ruled r → TableFits next r.tasks.count
  planned-table ruled = record {
    states = states_fit_lem P planned.sound next planned.arcs;
    labels = λ s l t e.
        subst (λ (n : ℕ). l < 2 ^ n) (ap length planned.for.tasks ∙ ruled.size)
        (label-below P (sound-plan P planned.sound) s l t (ap (λ as'. next_in as' s l) planned.arcs ∙ e));
  }
