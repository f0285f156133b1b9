-- Nodes join one after another. Assumes nothing.
use mathlib.Core.Path.{◌≡◌, refl, sym, ap, subst, ◌∙◌}
use mathlib.Core.List.{List, [], ◌∷◌, ◌++◌, map, map-append, append-nil, foldl, foldl-append}
use Prim.Native.Nat.{ℕ, ◌+◌, ◌-◌, ◌≤◌, ◌<◌}
use native.Mathlib.Nat.{zero-add}
use native.Mathlib.Omega.{arith}
use lib.ListN.{length}
use Rattle.std.specs.Prelude as rust
use Rattle.std.specs.Prelude.{None, Some}
use Rattle.words.proofs.Free.{only_refl, only_trans}
use Rattle.model.specs.Bytes.{Only}
use Rattle.model.specs.Discovery.{add}
use Rattle.model.specs.Graph as model
use Rattle.model.specs.Graph.{same_node}
use Rattle.model.specs.Limits.{max_nodes}
use Rattle.model.specs.Lists.{flat_map, up_from}
use Rattle.model.proofs.Lists.{up_from-append, flat_map-append}
use Rattle.model.specs.Plan.{Plan}
use Rattle.model.proofs.Discovery.{fold_longer}
use Rattle.theory.proofs.Nodes.{same-node}
use Rattle.policy.specs.View.{Tasks, tasks_in}
use Rattle.policy.specs.declared.Rules.{Rules}
use Rattle.graph.specs.Outcomes.{pattern_in}
use Rattle.graph.specs.Label.{order_in}
use Rattle.store.specs.Store.{store_bytes}
use Rattle.discovery.specs.Discovery.{nodes_in, Holding, Known, Stored, Adds, nodes_with, Explored, edges_by, edges_below}

-- after other writes to the store, and of equal nodes
pub known-after : {ts : Tasks} {ns all : List model.Node} {m m' m'' : List ℕ} {q : rust.Option ℕ} → Only 0 store_bytes m m' → ns ≡ all → Known ts ns m' m'' q →
    Known ts all m m'' q
known-after only same then = record {
  held = λ n h. let k = then.held n h in (k.0, k.1 ∙ same);
  many = λ h. subst (λ (l : List model.Node). max_nodes < length l) same (then.many h);
  only = only_trans only then.only;
}

-- one list after another
module _ (ts : Tasks) (ns vs ws all : List model.Node) (joins : vs ++ ws ≡ all) (m m' : List ℕ) where
  with_all : foldl (add same_node) (foldl (add same_node) ns vs) ws ≡ foldl (add same_node) ns all
  with_all = sym (foldl-append (add same_node) ns vs ws) ∙ ap (foldl (add same_node) ns) joins

  known-then : (r : ℕ) → Known ts (foldl (add same_node) ns vs) m m' (Some r) → (m'' : List ℕ) (q : rust.Option ℕ)
      → Known ts (foldl (add same_node) (nodes_in ts m' r) ws) m' m'' q → Known ts (foldl (add same_node) ns all) m m'' q
  known-then r first m'' q then =
      known-after first.only (ap (λ (l : List model.Node). foldl (add same_node) l ws) (first.held r refl).1 ∙ with_all) then

  known_many : Known ts (foldl (add same_node) ns vs) m m' None → Known ts (foldl (add same_node) ns all) m m' None
  known_many first = record {
    held = λ n h. cc;
    many = λ h.
        subst (λ (l : List model.Node). max_nodes < length l) with_all
        (omega (arith, first.many refl, fold_longer same_node same-node ws (foldl (add same_node) ns vs)));
    only = first.only;
  }

-- none at all
pub known-none : (ts : Tasks) (m : List ℕ) (n : ℕ) → Holding ts m n → Known ts (nodes_in ts m n) m m (Some n)
known-none ts m n held = record {
  held = λ k h. let same : n ≡ k = cc in subst (λ (j : ℕ). Holding ts m j × (nodes_in ts m j ≡ nodes_in ts m n)) same (held, refl);
  many = λ h. cc;
  only = only_refl;
}

-- of the patterns in the notes
module _ (cells : List ℕ) (state : ℕ) (notes m : List ℕ) (n : ℕ) where
  abbrev pub Added : ℕ → List ℕ → rust.Option ℕ → Type 0
  Added k m' r = Adds cells (nodes_with cells state (order_in notes k)) m n m' r

  pub added_none : Stored m n → Added 0 m (Some n)
  added_none stored = record { stored = λ k h. let same : n ≡ k = cc in subst (Stored m) same stored; known = λ ts held fits. known-none ts m n held }

  order-more : (k j : ℕ) (ts : Tasks) → nodes_with cells state (order_in notes (k + j)) ts
      ≡ nodes_with cells state (order_in notes k) ts ++ nodes_with cells state (map (pattern_in notes) (up_from k j)) ts
  order-more k j ts =
      ap (λ (l : List ℕ). nodes_with cells state (map (pattern_in notes) l) ts)
      (up_from-append 0 k j ∙ ap (λ (i : ℕ). up_from 0 k ++ up_from i j) (zero-add k))
      ∙ ap (λ (l : List ℕ). nodes_with cells state l ts) (map-append (pattern_in notes) (up_from 0 k) (up_from k j))
      ∙ map-append _ (order_in notes k) (map (pattern_in notes) (up_from k j))

  pub added_more : (k : ℕ) (m' : List ℕ) (r : ℕ) → Added k m' (Some r) → (p : ℕ) → p ≡ pattern_in notes k → (m'' : List ℕ) (q : rust.Option ℕ) →
      Adds cells (nodes_with cells state (p ∷ [])) m' r m'' q → Added (k + 1) m'' q
  added_more k m' r first p e m'' q then = record {
    stored = then.stored;
    known = λ ts held fits.
        let one = first.known ts held fits in
        let before = nodes_with cells state (order_in notes k) ts in
        known-then ts (nodes_in ts m n) before (nodes_with cells state (p ∷ []) ts) (nodes_with cells state (order_in notes (k + 1)) ts)
        (ap (λ (v : ℕ). before ++ nodes_with cells state (v ∷ []) ts) e ∙ sym (order-more k 1 ts)) m m' r one m'' q
        (then.known ts (one.held r refl).0 fits);
  }

  pub added_many : (k count : ℕ) (m' : List ℕ) → k ≤ count → Added k m' None → Added count m' None
  added_many k count m' le first = record {
    stored = first.stored;
    known = λ ts held fits.
        let all : k + (count - k) ≡ count = omega arith in
        known_many ts (nodes_in ts m n) (nodes_with cells state (order_in notes k) ts) (nodes_with cells state (map (pattern_in notes) (up_from k (count - k))) ts)
        (nodes_with cells state (order_in notes count) ts) (sym (order-more k (count - k) ts) ∙ ap (λ (c : ℕ). nodes_with cells state (order_in notes c) ts) all)
        m m' (first.known ts held fits);
  }

-- of edges, by where they lead
abbrev ends : List model.Edge → List model.Node
ends es = map (λ e. e.to) es

module _ (r : Rules) where
  pub explored-none : (m : List ℕ) (n : ℕ) → Holding (tasks_in r) m n → Explored r (λ P. []) m n m (Some n)
  explored-none m n held = record { known = λ P for. known-none (tasks_in r) m n held }

  pub explored-held : (es : Plan → List model.Edge) (m : List ℕ) (n : ℕ) (m' : List ℕ) (q : ℕ) → Explored r es m n m' (Some q) → Holding (tasks_in r) m' q
  explored-held es m n m' q first =
      ((first.known record { tasks = tasks_in r; policy = r.policy; states = 0; arcs = [] } record { tasks = refl; policy = refl }).held q refl).0

  module _ (es fs all : Plan → List model.Edge) (joins : (P : Plan) → es P ++ fs P ≡ all P) (m : List ℕ) (n : ℕ) (m' : List ℕ) where
    ends_join : (P : Plan) → ends (es P) ++ ends (fs P) ≡ ends (all P)
    ends_join P = sym (map-append (λ e. e.to) (es P) (fs P)) ∙ ap ends (joins P)

    explored-then : (q : ℕ) → Explored r es m n m' (Some q) → (m'' : List ℕ) (p : rust.Option ℕ) → Explored r fs m' q m'' p → Explored r all m n m'' p
    explored-then q first m'' p then = record {
      known = λ P for. known-then (tasks_in r) (nodes_in (tasks_in r) m n) (ends (es P)) (ends (fs P)) (ends (all P)) (ends_join P) m m' q (first.known P for) m'' p (then.known P for);
    }

    explored-many : Explored r es m n m' None → Explored r all m n m' None
    explored-many first = record {
      known = λ P for. known_many (tasks_in r) (nodes_in (tasks_in r) m n) (ends (es P)) (ends (fs P)) (ends (all P)) (ends_join P) m m' (first.known P for);
    }

-- of edges that are the same
pub explored-same : (r : Rules) (es fs : Plan → List model.Edge) (m : List ℕ) (n : ℕ) (m' : List ℕ) (q : rust.Option ℕ) → ((P : Plan) → es P ≡ fs P) →
    Explored r es m n m' q → Explored r fs m n m' q
explored-same r es fs m n m' q e x = record {
  known = λ P for. known-after only_refl (ap (λ (l : List model.Edge). foldl (add same_node) (nodes_in (tasks_in r) m n) (ends l)) (e P)) (x.known P for);
}

-- of labels upward
module _ (r : Rules) (next : List ℕ) (u : model.Node) (m : List ℕ) (n : ℕ) where
  below_more : (k j : ℕ) (P : Plan) → edges_below next u (k + j) P ≡ edges_below next u k P ++ flat_map (λ l. edges_by next u l P) (up_from k j)
  below_more k j P =
      ap (flat_map (λ l. edges_by next u l P)) (up_from-append 0 k j ∙ ap (λ (i : ℕ). up_from 0 k ++ up_from i j) (zero-add k))
      ∙ flat_map-append (λ l. edges_by next u l P) (up_from 0 k) (up_from k j)

  pub label-more : (k : ℕ) (m' : List ℕ) (q : ℕ) → Explored r (edges_below next u k) m n m' (Some q) → (m'' : List ℕ) (p : rust.Option ℕ) →
      Explored r (edges_by next u k) m' q m'' p → Explored r (edges_below next u (k + 1)) m n m'' p
  label-more k m' q first m'' p then =
      explored-then r (edges_below next u k) (edges_by next u k) (edges_below next u (k + 1))
      (λ P. ap (λ (es : List model.Edge). edges_below next u k P ++ es) (sym (append-nil (edges_by next u k P))) ∙ sym (below_more k 1 P))
      m n m' q first m'' p then

  pub label-many : (k count : ℕ) (m' : List ℕ) → k ≤ count → Explored r (edges_below next u k) m n m' None → Explored r (edges_below next u count) m n m' None
  label-many k count m' le first =
      let all : k + (count - k) ≡ count = omega arith in
      explored-many r (edges_below next u k) (λ P. flat_map (λ l. edges_by next u l P) (up_from k (count - k))) (edges_below next u count)
      (λ P. sym (below_more k (count - k) P) ∙ ap (λ (c : ℕ). edges_below next u c P) all) m n m' first
