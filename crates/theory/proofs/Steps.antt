-- The cycle that the checker accepts is one of the graph, and no larger fraction holds along it.
-- Assumes nothing.
use mathlib.Core.Path.{◌≡◌, refl, sym, ◌∙◌, ap, subst, subst₂}
use mathlib.Core.Bool.{Bool, true, false, cond, ◌&&◌, false≢true}
use mathlib.Core.Option.{Option, none, some, none-ne-some, some-injective}
use mathlib.Core.List.{List, [], ◌∷◌, ◌++◌, Memᴰ}
use Prim.Native.Nat.{ℕ, suc, ◌+◌, ◌*◌, ◌<◌}
use native.Mathlib.Nat.{add-zero, mul-suc, mul_comm, mul_assoc, mul_left_comm, mul_right_comm, mul-add, mul-lt-mul_of_pos_right, mul-le-mul_left, lt_of_mul-lt-mul_left}
use native.Mathlib.Omega.{arith}
use lib.Dec.{ltb, eqb}
use lib.ListN.{length, get_or}
use borrow.Author.Tests.{ltb-true, eqb-true, ne_eqb}
use Rattle.model.specs.Lists.{sum_of}
use Rattle.model.specs.Plan.{Plan}
use Rattle.model.specs.Graph.{Node, Edge, start, edges, same_node}
use Rattle.model.specs.Walk.{Walk, here, go, kept, ideal}
use Rattle.model.specs.Certificate.{Certificate, Step}
use Rattle.model.specs.Check.{is_step, find_step, Reached, follow, closes, cycle_ok}
use Rattle.model.proofs.Plan.{both}
use Rattle.theory.proofs.Cycles.{times, sum_of-append, sum_of-times, walk_append, walk_times}
use Rattle.theory.proofs.Nodes.{Reachable, same-node}

-- the edge found for a step is one of these, and has its label and masks
pub find_step_lem : (s : Step) (es : List Edge) (e : Edge) → find_step s es ≡ some e → Memᴰ e es × (is_step s e ≡ true)
find_step_lem s [] e h = absurd (none-ne-some e h)
find_step_lem s (f ∷ es) e h = by (is_step s f) refl h (find_step_lem s es e)
  where
    by : (b : Bool) → is_step s f ≡ b → cond b (some f) (find_step s es) ≡ some e →
        (find_step s es ≡ some e → Memᴰ e es × (is_step s e ≡ true)) → Memᴰ e (f ∷ es) × (is_step s e ≡ true)
    by true t k later =
        let same = some-injective _ _ k in
        (Memᴰ.head (sym same), subst (λ g. is_step s g ≡ true) same t)
    by false t k later = let r = later k in (Memᴰ.tail r.0, r.1)

-- a walk from where r is to where r' is, with the sums that it adds
pub record Followed (P : Plan) (r r' : Reached) : Type 0 where
  pub path : List Edge
  pub walk : Walk P r.at r'.at path
  pub keeps : r'.kept ≡ r.kept + kept path
  pub gains : r'.ideal ≡ r.ideal + ideal path

-- where the steps after an edge lead
abbrev pub after : Reached → Edge → Reached
after r e = record { at = e.to; kept = r.kept + e.kept; ideal = r.ideal + e.ideal }

-- no step
followed_none : (P : Plan) (r : Reached) → Followed P r r
followed_none P r = record { path = []; walk = here; keeps = sym (add-zero r.kept); gains = sym (add-zero r.ideal) }

-- one step more
followed_cons : (P : Plan) (r r' : Reached) (e : Edge) → Memᴰ e (edges P r.at) → Followed P (after r e) r' → Followed P r r'
followed_cons P r r' e m f = record {
  path = e ∷ f.path;
  walk = go m f.walk;
  keeps = omega (arith, f.keeps);
  gains = omega (arith, f.gains);
}

-- steps that lead on are a walk
pub follow_walk : (P : Plan) (ss : List Step) (r r' : Reached) → follow P ss r ≡ some r' → Followed P r r'
unfolding follow
follow_walk P [] r r' h = subst (λ t. Followed P r t) (some-injective _ _ h) (followed_none P r)
follow_walk P (s ∷ ss) r r' h = by (find_step s (edges P r.at)) refl h (λ t. follow_walk P ss t r')
  where
    by : (o : Option Edge) → find_step s (edges P r.at) ≡ o → elim o [ none ↦ none | some e ↦ follow P ss (after r e) ] ≡ some r' →
        ((t : Reached) → follow P ss t ≡ some r' → Followed P t r') → Followed P r r'
    by none f k later = absurd (none-ne-some r' k)
    by (some e) f k later = followed_cons P r r' e (find_step_lem s (edges P r.at) e f).0 (later (after r e) k)

-- a cycle at u with an ideal gain, along which exactly p/q of it is kept
pub record Tight (P : Plan) (p q : ℕ) (u : Node) : Type 0 where
  pub path : List Edge
  pub walk : Walk P u u path
  pub some : 0 < ideal path
  pub exact : p * ideal path ≡ q * kept path

-- where steps that close lead, and their sums
pub closes_parts : (p q : ℕ) (u : Node) (r : Reached) → closes p q u (some r) ≡ true →
    (r.at ≡ u) × (0 < r.ideal) × (p * r.ideal ≡ q * r.kept)
closes_parts p q u r h =
    let three = both (same_node r.at u && ltb 0 r.ideal) (eqb (p * r.ideal) (q * r.kept)) h in
    let two = both (same_node r.at u) (ltb 0 r.ideal) three.0 in
    ((same-node r.at u).0 two.0, ltb-true 0 r.ideal two.1, eqb-true _ _ three.1)

-- they are such a cycle
closes-tight : (P : Plan) (p q : ℕ) (u : Node) (ss : List Step) (o : Option Reached) →
    follow P ss (record { at = u; kept = 0; ideal = 0 }) ≡ o → closes p q u o ≡ true → Tight P p q u
closes-tight P p q u ss none f h = absurd (false≢true h)
closes-tight P p q u ss (some r) f h =
    let w = follow_walk P ss (record { at = u; kept = 0; ideal = 0 }) r f in
    let parts = closes_parts p q u r h in
    let keeps : r.kept ≡ kept w.path = omega (arith, w.keeps) in
    let gains : r.ideal ≡ ideal w.path = omega (arith, w.gains) in
    record {
      path = w.path;
      walk = subst (λ v. Walk P u v w.path) parts.0 w.walk;
      some = omega (arith, parts.1);
      exact = ap (λ (n : ℕ). p * n) (sym gains) ∙ parts.2 ∙ ap (λ (n : ℕ). q * n) keeps;
    }

-- the cycle that the checker accepts starts at a node of the list, and its steps close
pub cycle-closes : (P : Plan) (ns : List Node) (c : Certificate) → 0 < c.q → cycle_ok P ns c ≡ true →
    (c.node < length ns)
    × (closes c.p c.q (get_or ns c.node start) (follow P c.steps (record { at = get_or ns c.node start; kept = 0; ideal = 0 })) ≡ true)
unfolding cycle_ok
cycle-closes P ns c h ok =
    let two = both below closed (subst (λ b. cond b true (below && closed) ≡ true) (ne_eqb c.q 0 (omega arith)) ok) in
    (ltb-true c.node (length ns) two.0, two.1)
  where
    u : Node
    u = get_or ns c.node start

    below : Bool
    below = ltb c.node (length ns)

    closed : Bool
    closed = closes c.p c.q u (follow P c.steps (record { at = u; kept = 0; ideal = 0 }))

-- so it is such a one
pub cycle-tight : (P : Plan) (ns : List Node) (c : Certificate) → 0 < c.q → cycle_ok P ns c ≡ true →
    (c.node < length ns) × Tight P c.p c.q (get_or ns c.node start)
cycle-tight P ns c h ok =
    let two = cycle-closes P ns c h ok in
    (two.0, closes-tight P c.p c.q (get_or ns c.node start) c.steps _ refl two.1)

-- ---- no larger fraction

-- along such a cycle a larger fraction a/b is not kept
excess : (p q a b i k : ℕ) → 0 < i → p * i ≡ q * k → p * b < a * q → b * k < a * i
excess p q a b i k h e l =
    lt_of_mul-lt-mul_left q (omega (arith, mul-lt-mul_of_pos_right l h, left, right))
  where
    left : p * b * i ≡ q * (b * k)
    left = mul_right_comm p b i ∙ ap (λ (n : ℕ). n * b) e ∙ mul_assoc q k b ∙ ap (λ (n : ℕ). q * n) (mul_comm k b)

    right : a * q * i ≡ q * (a * i)
    right = ap (λ (n : ℕ). n * i) (mul_comm a q) ∙ mul_assoc q a i

-- the excess of each round adds up
rounds : (a b i k i₀ k₀ m H : ℕ) → b * k < a * i → b * k₀ + H < m → b * (k₀ + m * k) + H < a * (i₀ + m * i)
rounds a b i k i₀ k₀ m H h l =
    omega
    (arith, mul-add b k₀ (m * k), mul-add a i₀ (m * i), mul_left_comm b m k, mul_left_comm a m i, mul-le-mul_left m h, mul-suc m (b * k))

-- so the cycle walked often enough leaves any allowance behind
pub cycle-exceeds : (P : Plan) (p q : ℕ) (u : Node) → Reachable P u → Tight P p q u → (a b H : ℕ) → p * b < a * q →
    (es : List Edge) × Walk P start u es × (b * kept es + H < a * ideal es)
cycle-exceeds P p q u r t a b H h = (
  r.0 ++ times m t.path,
  walk_append r.1 (walk_times m t.walk),
  subst₂ (λ k i. b * k + H < a * i) (sym (sums (λ e. e.kept))) (sym (sums (λ e. e.ideal)))
      (rounds a b (ideal t.path) (kept t.path) (ideal r.0) (kept r.0) m H
      (excess p q a b (ideal t.path) (kept t.path) t.some t.exact h) (omega arith)),
)
  where
    m : ℕ
    m = suc (b * kept r.0 + H)

    sums : (f : Edge → ℕ) → sum_of f (r.0 ++ times m t.path) ≡ sum_of f r.0 + m * sum_of f t.path
    sums f = sum_of-append f r.0 (times m t.path) ∙ ap (λ (n : ℕ). sum_of f r.0 + n) (sum_of-times f m t.path)
