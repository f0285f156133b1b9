-- The passes at a fraction: each lowers the distances and takes every edge; what they find and their number are fixed, and where they find
-- the smallest costs there are no more of them than nodes.
-- Assumes nothing.
use mathlib.Core.Path.{◌≡◌, refl, sym, ◌∙◌, ap, subst, subst₂}
use mathlib.Core.Bool.{true, false, true≢false, false≢true}
use mathlib.Core.Logic.{◌↔◌}
use mathlib.Core.List.{List, [], ◌∷◌, map, Memᴰ}
use mathlib.Core.Option.{Option, none, some}
use Prim.Native.Nat.{ℕ, zero, suc, ◌-◌, ◌<◌, ◌≤◌}
use native.Mathlib.Decide.{dec_lt}
use native.Mathlib.Nat.{not-suc-le-zero, le_of_suc-le-suc}
use native.Mathlib.Omega.{arith}
use lib.IntN.{ℤ, ◌+ℤ◌, +ℤ_idl, +ℤ_idr, +ℤ_assoc}
use lib.ListN.{length, length-replicate, get_or-eq_default}
use lib.Signed.{◌≤ℤ◌, le_z, le_z_yes, ≤ℤ_refl}
use Rattle.model.specs.Lists.{up_from}
use Rattle.model.specs.Plan.{Plan}
use Rattle.model.specs.Discovery.{number_in}
use Rattle.model.specs.Graph.{Node, Edge, start, nodes, edges, same_node, too_large}
use Rattle.model.specs.Walk.{Walk, here, go}
use Rattle.model.specs.Check.{potential_at, weight}
use Rattle.model.specs.Solve.{cost}
use Rattle.model.specs.Passes.{Distances, distance_at, beginning, relax_node, pass, same_distance, unmoved, PassesTo, last, more}
use Rattle.model.proofs.Lists.{mem-up_from}
use Rattle.model.proofs.Plan.{both}
use Rattle.model.proofs.Tests.{is_true, holds, true-and, same_by_lem}
use Rattle.words.proofs.Signed.{≤ℤ_antisymm}
use Rattle.theory.specs.Lightest.{node_at}
use Rattle.theory.proofs.Nodes.{number_at, number-get_or, number-start, some-node, start_in_nodes, nodes-distinct, nodes-closed}
use Rattle.theory.proofs.Costs.{cost-none, cost-cons}
use Rattle.theory.proofs.Distances.{AllSmallest}
use Rattle.theory.proofs.Short.{smallest_short}
use Rattle.theory.proofs.Relaxing.{AtMost, plus, at_most_refl, at_most_trans, plus_mono, Below, below_refl, below_trans, below-same, fold-below, fold-reached, fold-length, target, node-length, node-below, node-reached}

-- ---- no distance has moved

same-distance : (a b : Option ℤ) → (same_distance a b ≡ true) ↔ (a ≡ b)
same-distance none none = (λ h. refl, λ e. refl)
same-distance none (some e) = (λ h. absurd (false≢true h), λ e. cc)
same-distance (some d) none = (λ h. absurd (false≢true h), λ e. cc)
same-distance (some d) (some e) = (
  λ h. let two = both (le_z d e) (le_z e d) h in ap some (≤ℤ_antisymm (le_z_yes (holds two.0)) (le_z_yes (holds two.1))),
  λ h.
      let same : d ≡ e = cc in
      subst (λ x. same_distance (some d) (some x) ≡ true) same
      (true-and (le_z d d) (le_z d d) (is_true (le_z d d) (≤ℤ_refl d).le) (is_true (le_z d d) (≤ℤ_refl d).le)),
)

pub unmoved-same : (ds es : Distances) → (unmoved ds es ≡ true) ↔ (ds ≡ es)
unmoved-same = same_by_lem same_distance same-distance

-- one of distances that are all known
known_at : (zs : List ℤ) (x : ℕ) → x < length zs → distance_at (map some zs) x ≡ some (potential_at zs x)
known_at [] x h = absurd (not-suc-le-zero h)
known_at (z ∷ zs) zero h = refl
known_at (z ∷ zs) (suc x) h = known_at zs x (le_of_suc-le-suc h)

module _ (P : Plan) (p q : ℕ) where
  -- ---- one pass

  pass-length : (ds : Distances) → length (pass P p q ds) ≡ length ds
  unfolding pass
  pass-length ds = fold-length (relax_node P p q) (node-length P p q) (up_from 0 (length (nodes P))) ds

  pass_below : (ds : Distances) → Below (pass P p q ds) ds
  unfolding pass
  pass_below ds = fold-below (relax_node P p q) (node-below P p q) (up_from 0 (length (nodes P))) ds

  -- every edge is taken
  pass-reached : too_large P ≡ false → (ds : Distances) → length ds ≡ length (nodes P) → (u : ℕ) → u < length (nodes P) → (e : Edge) →
      Memᴰ e (edges P (node_at P u)) → AtMost (distance_at (pass P p q ds) (target P e)) (plus (distance_at ds u) (weight p q e))
  unfolding pass
  pass-reached fits ds size u below e m =
      fold-reached (relax_node P p q) (node-below P p q) (up_from 0 (length (nodes P))) ds u (target P e) (plus (distance_at ds u) (weight p q e))
      (mem-up_from 0 (length (nodes P)) (omega arith) (omega (arith, below)))
      (λ es n h.
      at_most_trans (distance_at (relax_node P p q es u) (target P e)) (plus (distance_at es u) (weight p q e)) (plus (distance_at ds u) (weight p q e))
      (node-reached P p q fits u below es (n ∙ size) e m) (plus_mono (distance_at es u) (distance_at ds u) (weight p q e) (h.at u)))
      (node-length P p q)

  -- ---- one after another

  passes-length : {ds es : Distances} {k : ℕ} → PassesTo P p q ds es k → length es ≡ length ds
  passes-length (last e) = refl
  passes-length (more {ds = ds} e r) = passes-length r ∙ pass-length ds

  passes-below : {ds es : Distances} {k : ℕ} → PassesTo P p q ds es k → Below es ds
  passes-below (last {ds = ds} e) = below_refl ds
  passes-below (more {ds = ds} e r) = below_trans (passes-below r) (pass_below ds)

  -- what they find and their number are fixed
  pub passes-once : {ds es es' : Distances} {k k' : ℕ} → PassesTo P p q ds es k → PassesTo P p q ds es' k' → (es ≡ es') × (k ≡ k')
  passes-once (last e) (last e') = (refl, refl)
  passes-once (last e) (more e' r) = absurd (true≢false (sym e ∙ e'))
  passes-once (more e r) (last e') = absurd (false≢true (sym e ∙ e'))
  passes-once (more e r) (more e' r') = let same = passes-once r r' in (same.0, ap suc same.1)

  -- ---- at most as many as nodes

  -- the node x is at this distance or nearer, from the distances ds by a walk of at most r edges
  record Ahead (r : ℕ) (ds : Distances) (x : ℕ) (a : Option ℤ) : Type 0 where
    node : Node
    among : Memᴰ node (nodes P)
    path : List Edge
    walk : Walk P node (node_at P x) path
    short : length path ≤ r
    near : AtMost (plus (distance_at ds (number_in same_node (nodes P) node)) (cost p q path)) a

  plus_none : (a : Option ℤ) → plus a (cost p q []) ≡ a
  plus_none none = refl
  plus_none (some d) = ap some (ap (λ z. d +ℤ z) (cost-none p q) ∙ +ℤ_idr d)

  plus-cons : (a : Option ℤ) (e : Edge) (es : List Edge) → plus (plus a (weight p q e)) (cost p q es) ≡ plus a (cost p q (e ∷ es))
  plus-cons none e es = refl
  plus-cons (some d) e es = ap some (+ℤ_assoc d (weight p q e) (cost p q es) ∙ ap (λ z. d +ℤ z) (sym (cost-cons p q e es)))

  module _ (fits : too_large P ≡ false) where
    -- a pass takes the walk's first edge
    ahead-pass : {r : ℕ} (ds : Distances) → length ds ≡ length (nodes P) → {x : ℕ} {a : Option ℤ} → Ahead (suc r) ds x a → Ahead r (pass P p q ds) x a
    ahead-pass {r} ds size {x} {a} h = by h.node h.among h.path h.walk h.short h.near
      where
        number : Node → ℕ
        number v = number_in same_node (nodes P) v

        by : (u : Node) → Memᴰ u (nodes P) → (es : List Edge) → Walk P u (node_at P x) es → length es ≤ suc r →
            AtMost (plus (distance_at ds (number u)) (cost p q es)) a → Ahead r (pass P p q ds) x a
        by u m [] here few near = record {
          node = u;
          among = m;
          path = [];
          walk = here;
          short = omega arith;
          near =
              at_most_trans (plus (distance_at (pass P p q ds) (number u)) (cost p q [])) (plus (distance_at ds (number u)) (cost p q [])) a
              (plus_mono (distance_at (pass P p q ds) (number u)) (distance_at ds (number u)) (cost p q []) ((pass_below ds).at (number u))) near;
        }
        by u m (e ∷ es) (go j w) few near =
            let at = number_at (nodes P) u start m in
            let first = subst (λ v. Memᴰ e (edges P v)) (sym at.1) j in
            record {
              node = e.to;
              among = nodes-closed P fits u m e j;
              path = es;
              walk = w;
              short = le_of_suc-le-suc few;
              near =
                  at_most_trans (plus (distance_at (pass P p q ds) (number e.to)) (cost p q es))
                  (plus (plus (distance_at ds (number u)) (weight p q e)) (cost p q es)) a
                  (plus_mono (distance_at (pass P p q ds) (number e.to)) (plus (distance_at ds (number u)) (weight p q e)) (cost p q es)
                  (pass-reached fits ds size (number u) at.0 e first))
                  (subst (λ b. AtMost b a) (sym (plus-cons (distance_at ds (number u)) e es)) near);
            }

    -- without an edge the distance is there
    ahead_none : (ds : Distances) {x : ℕ} {a : Option ℤ} → x < length (nodes P) → Ahead 0 ds x a → AtMost (distance_at ds x) a
    ahead_none ds {x} {a} below h = by h.node h.path h.walk h.short h.near
      where
        by : (u : Node) (es : List Edge) → Walk P u (node_at P x) es → length es ≤ 0 →
            AtMost (plus (distance_at ds (number_in same_node (nodes P) u)) (cost p q es)) a → AtMost (distance_at ds x) a
        by u [] here few near =
            subst (λ b. AtMost b a)
            (plus_none (distance_at ds (number_in same_node (nodes P) (node_at P x))) ∙ ap (distance_at ds) (number-get_or (nodes P) start (nodes-distinct P) x below)) near
        by u (e ∷ es) w few near = absurd (not-suc-le-zero few)

    -- where every distance is at most r edges ahead, at most r passes move one
    few-ahead : (r : ℕ) {ds es : Distances} {k : ℕ} → PassesTo P p q ds es k → length ds ≡ length (nodes P) →
        ((x : ℕ) → x < length (nodes P) → Ahead r ds x (distance_at es x)) → k ≤ suc r
    few-ahead r (last e) size a = omega arith
    few-ahead zero (more {ds = ds} {es = es} e rest) size a =
        absurd (true≢false (sym ((unmoved-same ds (pass P p q ds)).1 (below-same ds (pass P p q ds) (sym (pass-length ds)) low (pass_below ds))) ∙ e))
      where
        there : (x : ℕ) → Dec (x < length (nodes P)) → AtMost (distance_at ds x) (distance_at es x)
        there x (yes h) = ahead_none ds h (a x h)
        there x (no h) =
            subst₂ AtMost (sym (get_or-eq_default ds none (omega (arith, h, size))))
            (sym (get_or-eq_default es none (omega (arith, h, size, passes-length rest, pass-length ds)))) (at_most_refl none)

        low : Below ds (pass P p q ds)
        low = below_trans (record { at = λ x. there x (dec_lt x (length (nodes P))) }) (passes-below rest)
    few-ahead (suc r) (more {ds = ds} e rest) size a =
        omega (arith, few-ahead r rest (pass-length ds ∙ size) (λ x h. ahead-pass ds size (a x h)))

    -- "at most N"
    pub passes-few : (zs : List ℤ) → length zs ≡ length (nodes P) → AllSmallest P p q zs → {k : ℕ} →
        PassesTo P p q (beginning (length (nodes P))) (map some zs) k → k ≤ length (nodes P)
    passes-few zs sized smallest r =
        let n = length (nodes P) in
        omega (
          arith,
          some-node P,
          few-ahead (n - 1) r (omega (arith, some-node P, length-replicate {A = Option ℤ} (n - 1) none)) ahead,
        )
      where
        ahead : (x : ℕ) → x < length (nodes P) → Ahead (length (nodes P) - 1) (beginning (length (nodes P))) x (distance_at (map some zs) x)
        ahead x h =
            let s = smallest_short P fits p q zs smallest (smallest x h) in
            record {
              node = start;
              among = start_in_nodes P;
              path = s.0;
              walk = s.1;
              short = omega (arith, s.2);
              near =
                  subst₂ (λ (i : ℕ) b. AtMost (plus (distance_at (beginning (length (nodes P))) i) (cost p q s.0)) b) (sym (number-start P))
                  (sym (known_at zs x (omega (arith, h, sized))))
                  (subst₂ (λ y z. y ≤ℤ z) (sym (+ℤ_idl (cost p q s.0))) s.3 (≤ℤ_refl (cost p q s.0)));
            }
