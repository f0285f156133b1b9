-- A walk without its loops: it passes no node twice, and costs no more where no cycle costs less than nothing. So a smallest cost is that of
-- a walk with fewer edges than there are nodes.
-- Assumes nothing.
use mathlib.Core.Path.{◌≡◌, refl, sym, ◌∙◌, ap, subst, subst₂}
use mathlib.Core.Bool.{Bool, true, false, false≢true}
use mathlib.Core.Logic.{⊎_elim}
use mathlib.Core.List.Memᴰ
use mathlib.Core.List.{List, [], ◌∷◌, ◌++◌, map, Memᴰ}
use Prim.Native.Nat.{ℕ, ◌<◌}
use native.Mathlib.Omega.{arith}
use lib.IntN.{ℤ, pos, ◌+ℤ◌}
use lib.ListN.{length, length-map}
use lib.Signed.{◌≤ℤ◌, ≤ℤ_refl}
use Rattle.model.specs.Plan.{Plan}
use Rattle.model.specs.Discovery.{among}
use Rattle.model.specs.Graph.{Node, Edge, start, nodes, edges, same_node, too_large}
use Rattle.model.specs.Walk.{Walk, here, go}
use Rattle.model.specs.Check.{weight}
use Rattle.model.specs.Solve.{cost, Smallest}
use Rattle.words.proofs.Signed.{+ℤ_mono, ≤ℤ_antisymm}
use Rattle.theory.proofs.Integers.{cheaper, not-less}
use Rattle.model.proofs.Distinct.{Distinct, distinct-le}
use Rattle.theory.proofs.Nodes.{among-mem, Closed, start_in_nodes, nodes-closed}
use Rattle.theory.proofs.Cycles.{walk_append}
use Rattle.theory.proofs.Costs.{cost-append, cost-cons}
use Rattle.theory.proofs.Potentials.{potential_of}
use Rattle.theory.proofs.Distances.{AllSmallest, smallest_at}

-- the nodes that a walk passes, from u on
abbrev pub passed : Node → List Edge → List Node
passed u es = u ∷ map (λ e. e.to) es

-- a walk cut at a node that it passes
record Cut (P : Plan) (u x v : Node) (es : List Edge) : Type 0 where
  before : List Edge
  after : List Edge
  whole : es ≡ before ++ after
  to : Walk P u x before
  on : Walk P x v after
  apart : Distinct (passed u es) → Distinct (passed x after)

-- at its first node
cut-here : {P : Plan} {u x v : Node} {es : List Edge} → x ≡ u → Walk P u v es → Cut P u x v es
cut-here {P} {u} {x} {v} {es} e w = record {
  before = [];
  after = es;
  whole = refl;
  to = subst (λ y. Walk P u y []) (sym e) here;
  on = subst (λ y. Walk P y v es) (sym e) w;
  apart = subst (λ y. Distinct (passed u es) → Distinct (passed y es)) (sym e) (λ d. d);
}

-- further on
cut-go : {P : Plan} {u x v : Node} {e : Edge} {es : List Edge} → Memᴰ e (edges P u) → Cut P e.to x v es → Cut P u x v (e ∷ es)
cut-go {e = e} m c = record {
  before = e ∷ c.before;
  after = c.after;
  whole = ap (λ l. e ∷ l) c.whole;
  to = go m c.to;
  on = c.on;
  apart = λ d. c.apart d.1;
}

-- anywhere
cut : {P : Plan} {u v : Node} {es : List Edge} (x : Node) → Walk P u v es → Memᴰ x (passed u es) → Cut P u x v es
cut x here m = ⊎_elim (λ e. cut-here e here) (λ k. absurd (Memᴰ.not-nil k)) (Memᴰ.cases_cons m)
cut x (go j w) m = ⊎_elim (λ e. cut-here e (go j w)) (λ k. cut-go j (cut x w k)) (Memᴰ.cases_cons m)

-- the nodes that a walk passes are of the list that it stays in
passed-inside : {P : Plan} {ns : List Node} → Closed P ns → {u v : Node} {es : List Edge} → Memᴰ u ns → Walk P u v es →
    (x : Node) → Memᴰ x (passed u es) → Memᴰ x ns
passed-inside c m here x k = ⊎_elim (λ e. Memᴰ.cast e m) (λ j. absurd (Memᴰ.not-nil j)) (Memᴰ.cases_cons k)
passed-inside c {u} m (go {e = e} j w) x k =
    ⊎_elim (λ p. Memᴰ.cast p m) (λ i. passed-inside c (c u m e j) w x i) (Memᴰ.cases_cons k)

-- a walk between the same nodes that passes none twice and costs no more
record Simple (P : Plan) (p q : ℕ) (u v : Node) (es : List Edge) : Type 0 where
  path : List Edge
  walk : Walk P u v path
  apart : Distinct (passed u path)
  less : cost p q path ≤ℤ cost p q es

-- no cycle from a node of the list costs less than nothing
abbrev NoLoss : ℕ → ℕ → Plan → List Node → Type 0
NoLoss p q P ns = (u : Node) → Memᴰ u ns → (es : List Edge) → Walk P u u es → pos 0 ≤ℤ cost p q es

module _ (p q : ℕ) {P : Plan} {ns : List Node} (closed : Closed P ns) (no-loss : NoLoss p q P ns) where
  -- an edge, then a walk without loops
  simple_go : {u v : Node} {e : Edge} {es : List Edge} → Memᴰ u ns → Memᴰ e (edges P u) → Simple P p q e.to v es → Simple P p q u v (e ∷ es)
  simple_go {u} {v} {e} {es} m j s = by (among same_node u (passed e.to s.path)) refl
    where
      loop : Cut P e.to u v s.path → Simple P p q u v (e ∷ es)
      loop c = record {
        path = c.after;
        walk = c.on;
        apart = c.apart s.apart;
        less =
            subst (λ z. cost p q c.after ≤ℤ z) (sym (cost-cons p q e es))
            (cheaper (weight p q e) (cost p q c.before) (cost p q c.after) (cost p q s.path) (cost p q es)
            (subst (λ z. pos 0 ≤ℤ z) (cost-cons p q e c.before) (no-loss u m (e ∷ c.before) (go j c.to)))
            (ap (cost p q) c.whole ∙ cost-append p q c.before c.after) s.less);
      }

      by : (b : Bool) → among same_node u (passed e.to s.path) ≡ b → Simple P p q u v (e ∷ es)
      by true t = loop (cut u s.walk ((among-mem u (passed e.to s.path)).0 t))
      by false t = record {
        path = e ∷ s.path;
        walk = go j s.walk;
        apart = (λ k. false≢true (sym t ∙ (among-mem u (passed e.to s.path)).1 k), s.apart);
        less =
            subst₂ (λ y z. y ≤ℤ z) (sym (cost-cons p q e s.path)) (sym (cost-cons p q e es))
            (+ℤ_mono (≤ℤ_refl (weight p q e)) s.less);
      }

  -- every walk has one without loops
  simple : {u v : Node} {es : List Edge} → Memᴰ u ns → Walk P u v es → Simple P p q u v es
  simple m here = record { path = []; walk = here; apart = (Memᴰ.not-nil, tt); less = ≤ℤ_refl (cost p q []) }
  simple {u} m (go {e = e} j w) = simple_go m j (simple (closed u m e j) w)

  -- it has fewer edges than there are nodes
  simple_short : {u v : Node} {es : List Edge} → Memᴰ u ns → (s : Simple P p q u v es) → length s.path < length ns
  simple_short {u} m s =
      let few = distinct-le (passed u s.path) ns s.apart (passed-inside closed m s.walk) in
      omega (arith, few, length-map s.path (λ e. e.to))

-- ---- smallest costs

module _ (P : Plan) (fits : too_large P ≡ false) (p q : ℕ) (zs : List ℤ) (smallest : AllSmallest P p q zs) where
  -- where every node has a smallest cost, no cycle costs less than nothing
  smallest_no_loss : NoLoss p q P (nodes P)
  smallest_no_loss u m es w =
      let s = smallest_at P fits p q zs smallest u m in
      let r = s.reached in
      let y : ℤ = potential_of (nodes P) zs u in
      not-less y (cost p q es)
      (subst (λ z. y ≤ℤ z) (cost-append p q r.0 es ∙ ap (λ z. z +ℤ cost p q es) r.2) (s.least (r.0 ++ es) (walk_append r.1 w)))

  -- and the smallest cost is that of a walk with fewer edges than nodes
  pub smallest_short : {v : Node} {z : ℤ} → Smallest P p q v z →
      (es : List Edge) × Walk P start v es × (length es < length (nodes P)) × (cost p q es ≡ z)
  smallest_short {z = z} s =
      let r = s.reached in
      let t = simple p q (nodes-closed P fits) smallest_no_loss (start_in_nodes P) r.1 in (
        t.path,
        t.walk,
        simple_short p q (nodes-closed P fits) smallest_no_loss (start_in_nodes P) t,
        ≤ℤ_antisymm (subst (λ x. cost p q t.path ≤ℤ x) r.2 t.less) (s.least t.path t.walk),
      )
