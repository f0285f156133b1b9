-- A certificate's steps followed one after another. Assumes nothing.
use mathlib.Core.Path.{◌≡◌, refl, sym, ap, ◌∙◌}
use mathlib.Core.List.{List, [], ◌∷◌}
use mathlib.Core.Option.{Option, none, some}
use Prim.Native.Nat.{ℕ, ◌+◌, ◌≤◌, ◌<◌}
use native.Mathlib.Numerals.{add-one}
use lib.ListN.{length, drop, drop_of_length-le}
use lib.Seq.{drop-cons}
use Rattle.std.specs.Prelude as rust
use Rattle.std.specs.Prelude.{None, Some}
use Rattle.model.specs.Certificate.{Step}
use Rattle.model.specs.Check.{find_step, Reached, follow}
use Rattle.model.specs.Graph as model
use Rattle.model.specs.Graph.{edges}
use Rattle.model.specs.Limits.{max_states}
use Rattle.model.specs.Plan.{Plan}
use Rattle.certificate.specs.View.{step_at}
use Rattle.policy.specs.View.{Tasks}
use Rattle.policy.specs.declared.Rules.{Rules}
use Rattle.graph.specs.View.{node_of, Planned, plan_by}
use Rattle.graph.proofs.Edges.{planned-edges}
use Rattle.graph.specs.Edge.{End, end_in, edge_end}
use Rattle.node.specs.declared.Node.{Node}
use Rattle.graph.specs.declared.Edge.{Edge}

-- at a node, with these sums
abbrev pub here : Tasks → Node → ℕ → ℕ → Reached
here ts u kept ideal = record { at = node_of ts u; kept = kept; ideal = ideal }

-- by the end of the first step's edge
abbrev after : Plan → List Step → Reached → Option End → Option Reached
after P ss r none = none
after P ss r (some e) = follow P ss (record { at = e.to; kept = r.kept + e.kept; ideal = r.ideal + e.ideal })

follow-first : (P : Plan) (s : Step) (ss : List Step) (r : Reached) → follow P (s ∷ ss) r ≡ after P ss r (end_in (find_step s (edges P r.at)))
unfolding follow
follow-first P s ss r = by (find_step s (edges P r.at))
  where
    by : (o : Option model.Edge) →
        elim o [
          | none ↦ none
          | some e ↦ follow P ss (record { at = e.to; kept = r.kept + e.kept; ideal = r.ideal + e.ideal })
        ] ≡ after P ss r (end_in o)
    by none = refl
    by (some e) = refl

-- no step is left
pub steps-done : (P : Plan) (ss : List Step) (j : ℕ) (r : Reached) → length ss ≤ j → follow P (drop j ss) r ≡ some r
unfolding follow
steps-done P ss j r h = ap (λ (l : List Step). follow P l r) (drop_of_length-le ss h)

-- the step j, whose edge is found by its label and masks
module _ (P : Plan) (ts : Tasks) (ss : List Step) (j : ℕ) (below : j < length ss) (u : Node) (kept ideal : ℕ)
    (s : Step) (is : s ≡ step_at ss j) where
  by_end : (o : rust.Option Edge) → edge_end ts o ≡ end_in (find_step s (edges P (node_of ts u))) →
      follow P (drop j ss) (here ts u kept ideal) ≡ after P (drop (j + 1) ss) (here ts u kept ideal) (edge_end ts o)
  by_end o found =
      ap (λ (l : List Step). follow P l (here ts u kept ideal))
      (drop-cons ss j (record { label = 0; masks = [] }) below ∙ (λ i. sym is i ∷ drop (sym (add-one j) i) ss))
      ∙ follow-first P s (drop (j + 1) ss) (here ts u kept ideal)
      ∙ ap (after P (drop (j + 1) ss) (here ts u kept ideal)) (sym found)

  pub step_lost : none ≡ end_in (find_step s (edges P (node_of ts u))) → follow P (drop j ss) (here ts u kept ideal) ≡ none
  step_lost none_found = by_end None none_found

  pub step-taken : (e : Edge) → edge_end ts (Some e) ≡ end_in (find_step s (edges P (node_of ts u))) →
      follow P (drop j ss) (here ts u kept ideal) ≡ follow P (drop (j + 1) ss) (here ts e.to (kept + e.kept) (ideal + e.ideal))
  step-taken e found = by_end (Some e) found

-- the plans of a table lead where the table does
pub planned-follow : {P : Plan} {r : Rules} {next : List ℕ} → Planned P r next → (ss : List Step) (x : Reached) →
    follow P ss x ≡ follow (plan_by r next max_states) ss x
unfolding follow
planned-follow planned [] x = refl
planned-follow {P} {r} {next} planned (s ∷ ss) x =
    follow-first P s ss x ∙ ap (λ es. after P ss x (end_in (find_step s es))) (planned-edges planned x.at)
    ∙ by (end_in (find_step s (edges Q x.at))) (planned-follow planned ss) ∙ sym (follow-first Q s ss x)
  where
    Q : Plan
    Q = plan_by r next max_states

    by : (o : Option End) → ((y : Reached) → follow P ss y ≡ follow Q ss y) → after P ss x o ≡ after Q ss x o
    by none later = refl
    by (some e) later = later (record { at = e.to; kept = x.kept + e.kept; ideal = x.ideal + e.ideal })
