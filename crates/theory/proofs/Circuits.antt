-- The best edges between numbered nodes, and their steps: paths of a search are such steps, and such steps are walks.
-- Assumes nothing.
use mathlib.Core.Path.{◌≡◌, refl, sym, ◌∙◌, ap, ap₂, subst}
use mathlib.Core.Bool.{Bool, true, false}
use mathlib.Core.Logic.{⊎_elim}
use mathlib.Core.List.Memᴰ
use mathlib.Core.List.{List, [], ◌∷◌, Memᴰ}
use Prim.Native.Nat.{ℕ, suc, ◌*◌, ◌<◌, ◌≤◌}
use native.Mathlib.Nat.{mul-zero, mul-le-mul, mul-le-mul_left, lt_of_mul-lt-mul_left}
use native.Mathlib.Decide.{dec_le}
use native.Mathlib.Omega.{arith}
use lib.IntN.{ℤ, pos, ◌+ℤ◌}
use lib.ListN.{length}
use lib.Signed.{◌≤ℤ◌, ◌<ℤ◌, ≤ℤ_refl}
use Rattle.model.specs.Limits.{max_nodes, max_p, max_q}
use Rattle.model.specs.Lists.{keep}
use Rattle.model.specs.Plan.{Plan}
use Rattle.model.specs.Slot.{slot}
use Rattle.model.specs.Discovery.{number_in}
use Rattle.model.specs.Graph.{Node, Edge, start, same_node, edge_of, edges_at, edges, nodes, too_large}
use Rattle.model.specs.Walk.{Walk, here, go, kept, ideal}
use Rattle.model.specs.Check.{weight, fraction_ok}
use Rattle.model.specs.Solve.{cost}
use Rattle.model.proofs.Lists.{mem-get_or, mem-keep, mem-of-keep}
use Rattle.words.proofs.Signed.{≤ℤ_trans, +ℤ_mono}
use Rattle.theory.specs.Search.{Taken, State, Path, here, go, Within, Done}
use Rattle.theory.specs.Lightest.{node_at, Best, Lightest, max_weight, Along, here, go, Circuit}
use Rattle.theory.proofs.Integers.{sub_within, sub_mono, sub_negative}
use Rattle.theory.proofs.Edges.{mem-edges_at, mem-edges}
use Rattle.theory.proofs.Sound.{PlanSound, label-below}
use Rattle.theory.proofs.Nodes.{same-node, number_at, number-get_or, nodes-distinct, nodes-closed}
use Rattle.theory.proofs.Costs.{cost-none, cost-cons}
use Rattle.theory.proofs.Gains.{edge-kept-le, edge-ideal-le, walk_kept-le, walk_ideal-le, fraction-fits}

module _ {ℓ} {A : Type ℓ} (f : A → ℕ) where
  -- an element of the list, and none has a greater value
  abbrev Greatest : List A → Type ℓ
  Greatest l = (a : A) × Memᴰ a l × ((b : A) → Memᴰ b l → f b ≤ f a)

  -- some element is so
  greatest : (x : A) (l : List A) → Greatest (x ∷ l)
  greatest x [] = (x, Memᴰ.head refl, λ b m. omega (arith, ap f (Memᴰ.eq_of_singleton m)))
  greatest x (y ∷ l) = by (greatest y l)
    where
      by : Greatest (y ∷ l) → Greatest (x ∷ y ∷ l)
      by (a, m, most) = pick (dec_le (f x) (f a))
        where
          pick : Dec (f x ≤ f a) → Greatest (x ∷ y ∷ l)
          pick (yes h) = (a, Memᴰ.tail m, λ b k. ⊎_elim (λ e. omega (arith, ap f e)) (most b) (Memᴰ.cases_cons k))
          pick (no h) = (
            x,
            Memᴰ.head refl,
            λ b k. ⊎_elim (λ e. omega (arith, ap f e)) (λ j. omega (arith, most b j)) (Memᴰ.cases_cons k),
          )

module _ (P : Plan) where
  -- what an edge keeps is told by the label
  at-kept : (u : Node) (l : ℕ) (e : Edge) → Memᴰ e (edges_at P u l) → e.kept ≡ (slot P u.jobs l).gain
  unfolding edge_of
  at-kept u l e m = ap (λ (d : Edge). d.kept) ((mem-edges_at P u l e).0 m).is

  -- best edges of a label between the same nodes have the same gains
  pub best-same : {u l v : ℕ} {e f : Edge} → Best P u l v e → Best P u l v f → (e.kept ≡ f.kept) × (e.ideal ≡ f.ideal)
  best-same {u} {l} {v} {e} {f} b c = (
    at-kept (node_at P u) l e b.edge ∙ sym (at-kept (node_at P u) l f c.edge),
    omega (arith, b.most f c.edge c.to, c.most e b.edge b.to),
  )

-- the best edge of the label to the node where e leads
record BestFor (P : Plan) (u l : ℕ) (e : Edge) : Type 0 where
  node : ℕ
  below : node < length (nodes P)
  to : e.to ≡ node_at P node
  edge : Edge
  best : Best P u l node edge
  kept : edge.kept ≡ e.kept
  ideal : e.ideal ≤ edge.ideal

module _ (P : Plan) (sd : PlanSound P) where
  -- the edges of a label are edges of the node
  edges_at-edges : (u : Node) (l : ℕ) (e : Edge) → Memᴰ e (edges_at P u l) → Memᴰ e (edges P u)
  edges_at-edges u l e m =
      let at = (mem-edges_at P u l e).0 m in
      (mem-edges P u e).1 (record { label = l; below = label-below P sd u.state l at.next at.admitted; at = at })

  -- so are the best
  pub best-edge : {u l v : ℕ} {e : Edge} → Best P u l v e → Memᴰ e (edges P (node_at P u))
  best-edge {u} {l} {e = e} b = edges_at-edges (node_at P u) l e b.edge

  -- there is one for every edge
  edge-best : too_large P ≡ false → (u l : ℕ) (e : Edge) → u < length (nodes P) → Memᴰ e (edges_at P (node_at P u) l) →
      BestFor P u l e
  edge-best fits u l e h m = record {
    node = number_in same_node (nodes P) e.to;
    below = at.0;
    to = sym at.1;
    edge = f;
    best = record {
      edge = (mem-of-keep there all among).0;
      to = (same-node f.to e.to).0 (mem-of-keep there all among).1 ∙ sym at.1;
      most = λ g k t. r.2 g (Memᴰ.tail (mem-keep there k ((same-node g.to e.to).1 (t ∙ at.1))));
    };
    kept = at-kept P (node_at P u) l f (mem-of-keep there all among).0 ∙ sym (at-kept P (node_at P u) l e m);
    ideal = r.2 e (Memᴰ.head refl);
  }
    where
      all : List Edge
      all = edges_at P (node_at P u) l

      there : Edge → Bool
      there g = same_node g.to e.to

      at : (number_in same_node (nodes P) e.to < length (nodes P)) × (node_at P (number_in same_node (nodes P) e.to) ≡ e.to)
      at =
          number_at (nodes P) e.to start
          (nodes-closed P fits (node_at P u) (mem-get_or (nodes P) u start h) e (edges_at-edges (node_at P u) l e m))

      r : Greatest (λ g. g.ideal) (e ∷ keep there all)
      r = greatest (λ g. g.ideal) e (keep there all)

      f : Edge
      f = r.0

      among : Memᴰ f (keep there all)
      among = ⊎_elim (λ p. Memᴰ.cast p (mem-keep there m ((same-node e.to e.to).1 refl))) (λ k. k) (Memᴰ.cases_cons r.1)

  -- where the links of u are done, an edge of u leads to a known node, whose distance is no greater than with the edge's weight
  pub done-edge : too_large P ≡ false → (p q : ℕ) (s : State) (u : ℕ) → u < length (nodes P) → Done (Lightest P p q) (length (nodes P)) s u →
      (e : Edge) → Memᴰ e (edges P (node_at P u)) →
      (s.known (number_in same_node (nodes P) e.to) ≡ true) × (s.dist (number_in same_node (nodes P) e.to) ≤ℤ (s.dist u +ℤ weight p q e))
  done-edge fits p q s u h done e m =
      let from = (mem-edges P (node_at P u) e).0 m in
      let b = edge-best fits u from.label e h ((mem-edges_at P (node_at P u) from.label e).1 from.at) in
      let f = b.edge in
      let found = done from.label b.node (weight p q f) b.below (record { edge = f; best = b.best; weighs = refl }) in
      let at : number_in same_node (nodes P) e.to ≡ b.node =
      ap (number_in same_node (nodes P)) b.to ∙ number-get_or (nodes P) start (nodes-distinct P) b.node b.below in
      let lighter : weight p q f ≤ℤ weight p q e =
      sub_mono (mul-le-mul_left q (omega (arith, b.kept))) (mul-le-mul_left p b.ideal) in (
        ap s.known at ∙ found.0,
        subst (λ (i : ℕ). s.dist i ≤ℤ (s.dist u +ℤ weight p q e)) (sym at)
            (≤ℤ_trans found.1 (+ℤ_mono (≤ℤ_refl (s.dist u)) lighter)),
      )

  -- every weight of the links is within the limit
  pub lightest_within : (p q n : ℕ) → fraction_ok p q ≡ true → Within (Lightest P p q) n max_weight
  lightest_within p q n ok u l v w h k r =
      let e = r.edge in
      let m = best-edge r.best in
      let fits = fraction-fits p q ok in
      subst (λ z. (z ≤ℤ pos max_weight) × (pos 0 ≤ℤ (z +ℤ pos max_weight))) r.weighs
      (sub_within (q * e.kept) (p * e.ideal) max_weight (mul-le-mul fits.1 (edge-kept-le P sd (node_at P u) e m))
      (mul-le-mul fits.0 (edge-ideal-le P sd (node_at P u) e m)))

  -- the edges of steps are a walk
  pub along_walk : {u v : ℕ} {ss : List Taken} {es : List Edge} → Along P u ss v es → Walk P (node_at P u) (node_at P v) es
  along_walk here = here
  along_walk {v = v} (go {es = es} b a) = go (best-edge b) (subst (λ y. Walk P y (node_at P v) es) (sym b.to) (along_walk a))

-- where steps to v start
abbrev pub first_node : List Taken → ℕ → ℕ
first_node [] v = v
first_node (s ∷ ss) v = s.node

module _ {P : Plan} where
  -- an edge for each step
  pub along-length : {u v : ℕ} {ss : List Taken} {es : List Edge} → Along P u ss v es → length es ≡ length ss
  along-length here = refl
  along-length (go b a) = ap suc (along-length a)

  -- steps start at the first one's node
  pub along-first : {u v : ℕ} {ss : List Taken} {es : List Edge} → Along P u ss v es → u ≡ first_node ss v
  along-first here = refl
  along-first (go b a) = refl

  -- no step has no gain
  along-none : {u v : ℕ} {es : List Edge} → Along P u [] v es → (kept [] ≡ kept es) × (ideal [] ≡ ideal es)
  along-none here = (refl, refl)

  -- a step, and those after it
  along-cons : {u v : ℕ} {s : Taken} {ss : List Taken} {es : List Edge} → Along P u (s ∷ ss) v es →
      (x : ℕ) × (e : Edge) × (fs : List Edge) × Best P u s.label x e × Along P x ss v fs × (es ≡ e ∷ fs)
  along-cons (go {x = x} {e = e} {es = fs} b a) = (x, e, fs, b, a, refl)

  -- the same steps have the same gains
  pub along-same : {u v : ℕ} {ss : List Taken} {es fs : List Edge} → Along P u ss v es → Along P u ss v fs →
      (kept es ≡ kept fs) × (ideal es ≡ ideal fs)
  along-same here d = along-none d
  along-same {v = v} {fs = fs} (go {u = u} {l = l} {ss = ss} {e = e} {es = es} b a) d =
      let r = along-cons d in
      let at = along-first r.4 ∙ sym (along-first a) in
      let one = best-same P b (subst (λ (x : ℕ). Best P u l x r.1) at r.3) in
      let rest = along-same a (subst (λ (x : ℕ). Along P x ss v r.2) at r.4) in
      subst (λ (l : List Edge). (kept (e ∷ es) ≡ kept l) × (ideal (e ∷ es) ≡ ideal l)) (sym r.5)
      (omega (arith, one.0, rest.0), omega (arith, one.1, rest.1))

  -- a path is such steps, at the cost of their edges
  pub path_along : {p q u v : ℕ} {ss : List Taken} {z : ℤ} → Path (Lightest P p q) u v ss z →
      (es : List Edge) × Along P u ss v es × (cost p q es ≡ z)
  path_along {p} {q} here = ([], here, cost-none p q)
  path_along {p} {q} (go k r) =
      let s = path_along r in
      (k.edge ∷ s.0, go k.best s.1, cost-cons p q k.edge s.0 ∙ ap₂ (λ x y. x +ℤ y) k.weighs s.2)

  -- a path back to its start that costs less than 0 is a circuit
  pub circuit-of : {p q n v : ℕ} {ss : List Taken} {z : ℤ} → Path (Lightest P p q) v v ss z → z <ℤ pos 0 → length ss ≤ n → Circuit P p q n v ss
  circuit-of {p} {q} r h few =
      let s = path_along r in
      record {
        edges = s.0;
        along = s.1;
        few = few;
        less = sub_negative (q * kept s.0) (p * ideal s.0) (subst (λ y. y <ℤ pos 0) (sym s.2) h);
      }

-- a circuit has a step, its gains are within the limits of fractions, and the clairvoyant's is above 0
pub circuit_sums : (P : Plan) → PlanSound P → {p q n v : ℕ} {ss : List Taken} (c : Circuit P p q n v ss) → n ≤ max_nodes →
    (kept c.edges ≤ max_p) × (ideal c.edges ≤ max_q) × (0 < ideal c.edges) × (0 < length ss)
circuit_sums P sd {p} {q} c h =
    let w = along_walk P sd c.along in
    let size = along-length c.along in
    let gains : 0 < ideal c.edges = lt_of_mul-lt-mul_left p (omega (arith, mul-zero p, c.less)) in
    let most = walk_ideal-le P sd w in (
      omega (arith, c.few, size, walk_kept-le P sd w),
      omega (arith, c.few, size, most),
      gains,
      omega (arith, gains, size, most),
    )
