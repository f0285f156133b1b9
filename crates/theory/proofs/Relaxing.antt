-- An edge taken, and all edges of a node, in a pass of the solver: what they leave of the distances.
-- Assumes nothing.
use mathlib.Core.Path.{◌≡◌, refl, sym, ◌∙◌, ap, subst, subst₂}
use mathlib.Core.Bool.{Bool, true, false, cond, not, true≢false}
use mathlib.Core.Logic.{◌⊎◌, inl, inr}
use mathlib.Core.List.{List, [], ◌∷◌, foldl, Memᴰ}
use mathlib.Core.Option.{Option, none, some}
use Prim.Native.Nat.{ℕ, ◌<◌}
use native.Mathlib.Decide.{ℕ_discrete, dec_lt}
use native.Mathlib.Omega.{arith}
use lib.IntN.{ℤ, ◌+ℤ◌}
use lib.ListN.{length, set, length-set}
use lib.Seq.{set_out, get_or-set_same, get_or-set_other, ext_get_or}
use lib.Signed.{◌≤ℤ◌, lt_z_yes, lt_z_no, ≤ℤ_refl}
use Rattle.model.specs.Plan.{Plan}
use Rattle.model.specs.Discovery.{number_in}
use Rattle.model.specs.Graph.{Edge, nodes, edges, same_node, too_large, start}
use Rattle.model.specs.Check.{weight}
use Rattle.model.specs.Passes.{Distances, distance_at, is_smaller, lowered, relax_from, relax_edge, relax_node}
use Rattle.model.proofs.Lists.{mem-get_or}
use Rattle.model.proofs.Tests.{holds}
use Rattle.words.proofs.Signed.{≤ℤ_trans, ≤ℤ_antisymm, +ℤ_mono, ≤ℤ_iff, <ℤ-iff}
use Rattle.theory.specs.Lightest.{node_at}
use Rattle.theory.proofs.Nodes.{number_at, nodes-closed}

-- ---- the order of distances

-- no greater than a distance; an unknown one is above all
abbrev pub AtMost : Option ℤ → Option ℤ → Type 0
AtMost none none = Unit {0}
AtMost (some y) none = Unit {0}
AtMost none (some z) = ⊥
AtMost (some y) (some z) = y ≤ℤ z

-- a distance with a weight
abbrev pub plus : Option ℤ → ℤ → Option ℤ
plus none w = none
plus (some d) w = some (d +ℤ w)

pub at_most_none : (a : Option ℤ) → AtMost a none
at_most_none none = tt
at_most_none (some y) = tt

pub at_most_refl : (a : Option ℤ) → AtMost a a
at_most_refl none = tt
at_most_refl (some y) = ≤ℤ_refl y

pub at_most_trans : (a b c : Option ℤ) → AtMost a b → AtMost b c → AtMost a c
at_most_trans a b none h k = at_most_none a
at_most_trans a none (some z) h k = absurd k
at_most_trans none (some y) (some z) h k = absurd h
at_most_trans (some x) (some y) (some z) h k = ≤ℤ_trans h k

at_most_antisymm : (a b : Option ℤ) → AtMost a b → AtMost b a → a ≡ b
at_most_antisymm none none h k = refl
at_most_antisymm none (some z) h k = absurd h
at_most_antisymm (some y) none h k = absurd k
at_most_antisymm (some y) (some z) h k = ap some (≤ℤ_antisymm h k)

pub plus_mono : (a b : Option ℤ) (w : ℤ) → AtMost a b → AtMost (plus a w) (plus b w)
plus_mono none none w h = tt
plus_mono (some y) none w h = tt
plus_mono none (some z) w h = absurd h
plus_mono (some y) (some z) w h = +ℤ_mono h (≤ℤ_refl w)

-- no distance is greater
pub record Below (es ds : Distances) : Type 0 where
  pub at : (x : ℕ) → AtMost (distance_at es x) (distance_at ds x)

pub below_refl : (ds : Distances) → Below ds ds
below_refl ds = record { at = λ x. at_most_refl (distance_at ds x) }

pub below_trans : {cs ds es : Distances} → Below es ds → Below ds cs → Below es cs
below_trans {cs} {ds} {es} h k = record { at = λ x. at_most_trans (distance_at es x) (distance_at ds x) (distance_at cs x) (h.at x) (k.at x) }

-- none greater either way: the same
pub below-same : (ds es : Distances) → length ds ≡ length es → Below ds es → Below es ds → ds ≡ es
below-same ds es size h k = ext_get_or none ds es size (λ x below. at_most_antisymm (distance_at ds x) (distance_at es x) (h.at x) (k.at x))

-- ---- a distance that may be lowered

-- a distance that z is not smaller than is at most z
not_smaller : (z : ℤ) (a : Option ℤ) → is_smaller z a ≡ false → AtMost a (some z)
not_smaller z none e = absurd (true≢false e)
not_smaller z (some d) e = lt_z_no (holds (ap not e))

smaller_most : (z : ℤ) (a : Option ℤ) → is_smaller z a ≡ true → AtMost (some z) a
smaller_most z none e = tt
smaller_most z (some d) e = (≤ℤ_iff z d).1 (omega (arith, (<ℤ-iff z d).0 (lt_z_yes (holds e))))

module _ (ds : Distances) (v : ℕ) (z : ℤ) where
  abbrev test : Bool
  test = is_smaller z (distance_at ds v)

  -- the distances, once z is stored or not
  abbrev after : Bool → Distances
  after b = cond b (set ds v (some z)) ds

  length-lowered : length (lowered ds v z) ≡ length ds
  length-lowered = by test
    where
      by : (b : Bool) → length (after b) ≡ length ds
      by true = length-set ds v (some z)
      by false = refl

  -- where z is stored, a distance stays, or is z
  abbrev Stored : ℕ → Type 0
  Stored x = (distance_at (after true) x ≡ distance_at ds x) ⊎ ((v ≡ x) × (distance_at (after true) x ≡ some z))

  stored : (x : ℕ) → Stored x
  stored x = by (ℕ_discrete x v) (dec_lt v (length ds))
    where
      by : Dec (x ≡ v) → Dec (v < length ds) → Stored x
      by (no q) h = inl (get_or-set_other ds v x (some z) none q)
      by (yes p) (no h) = inl (ap (λ l. distance_at l x) (set_out ds v (some z) (omega (arith, h))))
      by (yes p) (yes h) = inr (sym p, ap (distance_at (after true)) p ∙ get_or-set_same ds v (some z) none h)

  lowered-below : Below (lowered ds v z) ds
  lowered-below = record { at = λ x. by x test refl (stored x) }
    where
      by : (x : ℕ) (b : Bool) → test ≡ b → Stored x → AtMost (distance_at (after b) x) (distance_at ds x)
      by x false e h = at_most_refl (distance_at ds x)
      by x true e (inl d) = subst (λ a. AtMost a (distance_at ds x)) (sym d) (at_most_refl (distance_at ds x))
      by x true e (inr (p, d)) =
          subst₂ (λ a (y : ℕ). AtMost a (distance_at ds y)) (sym d) p (smaller_most z (distance_at ds v) e)

  lowered-reached : v < length ds → AtMost (distance_at (lowered ds v z) v) (some z)
  lowered-reached h = by test refl
    where
      by : (b : Bool) → test ≡ b → AtMost (distance_at (after b) v) (some z)
      by true e = subst (λ a. AtMost a (some z)) (sym (get_or-set_same ds v (some z) none h)) (≤ℤ_refl z)
      by false e = not_smaller z (distance_at ds v) e

  -- what is below the distances and z stays below
  lowered-above : {es : Distances} → Below es ds → AtMost (distance_at es v) (some z) → Below es (lowered ds v z)
  lowered-above {es} h k = record { at = λ x. by x test (stored x) }
    where
      by : (x : ℕ) (b : Bool) → Stored x → AtMost (distance_at es x) (distance_at (after b) x)
      by x false d = h.at x
      by x true (inl d) = subst (AtMost (distance_at es x)) (sym d) (h.at x)
      by x true (inr (p, d)) = subst₂ (λ (y : ℕ) a. AtMost (distance_at es y) a) p (sym d) k

-- ---- folds that lower

module _ {A : Type 0} (f : Distances → A → Distances) (lower : (ds : Distances) (a : A) → Below (f ds a) ds) where
  pub fold-below : (l : List A) (ds : Distances) → Below (foldl f ds l) ds
  fold-below [] ds = below_refl ds
  fold-below (a ∷ l) ds = below_trans (fold-below l (f ds a)) (lower ds a)

  -- what one of them reaches, from whatever the others leave, is reached
  pub fold-reached : (l : List A) (ds : Distances) (a : A) (v : ℕ) (z : Option ℤ) → Memᴰ a l →
      ((es : Distances) → length es ≡ length ds → Below es ds → AtMost (distance_at (f es a) v) z) →
      ((es : Distances) (b : A) → length (f es b) ≡ length es) → AtMost (distance_at (foldl f ds l) v) z
  fold-reached [] ds a v z m reach size = elim m [ ]
  fold-reached (b ∷ l) ds a v z (Memᴰ.head p) reach size =
      at_most_trans (distance_at (foldl f (f ds b) l) v) (distance_at (f ds b) v) z ((fold-below l (f ds b)).at v)
      (subst (λ c. AtMost (distance_at (f ds c) v) z) p (reach ds refl (below_refl ds)))
  fold-reached (b ∷ l) ds a v z (Memᴰ.tail m) reach size =
      fold-reached l (f ds b) a v z m (λ es n h. reach es (n ∙ size ds b) (below_trans h (lower ds b))) size

module _ {A : Type 0} (f : Distances → A → Distances) where
  pub fold-length : ((ds : Distances) (a : A) → length (f ds a) ≡ length ds) → (l : List A) (ds : Distances) → length (foldl f ds l) ≡ length ds
  fold-length size [] ds = refl
  fold-length size (a ∷ l) ds = fold-length size l (f ds a) ∙ size ds a

  -- what stays below each stays below all
  fold-above : {es : Distances} (l : List A) (ds : Distances) → ((cs : Distances) (a : A) → Memᴰ a l → Below es cs → Below es (f cs a)) →
      Below es ds → Below es (foldl f ds l)
  fold-above [] ds keep h = h
  fold-above (a ∷ l) ds keep h =
      fold-above l (f ds a) (λ cs b m. keep cs b (Memᴰ.tail m)) (keep ds a (Memᴰ.head refl) h)

-- ---- edges

-- the number of the node where an edge leads
abbrev pub target : Plan → Edge → ℕ
target P e = number_in same_node (nodes P) e.to

-- an edge of a node leads to a node
pub target_below : (P : Plan) → too_large P ≡ false → (u : ℕ) → u < length (nodes P) → (e : Edge) → Memᴰ e (edges P (node_at P u)) →
    target P e < length (nodes P)
target_below P fits u below e m =
    (number_at (nodes P) e.to start (nodes-closed P fits (node_at P u) (mem-get_or (nodes P) u start below) e m)).0

module _ (P : Plan) (p q : ℕ) where
  module _ (u : ℕ) (ds : Distances) (e : Edge) where
    abbrev taken : Option ℤ → Distances
    taken = relax_from (nodes P) p q ds e

    edge-length : length (relax_edge (nodes P) p q u ds e) ≡ length ds
    edge-length = by (distance_at ds u)
      where
        by : (a : Option ℤ) → length (taken a) ≡ length ds
        by none = refl
        by (some d) = length-lowered ds (target P e) (d +ℤ weight p q e)

    edge-below : Below (relax_edge (nodes P) p q u ds e) ds
    edge-below = by (distance_at ds u)
      where
        by : (a : Option ℤ) → Below (taken a) ds
        by none = below_refl ds
        by (some d) = lowered-below ds (target P e) (d +ℤ weight p q e)

    edge-reached : target P e < length ds → AtMost (distance_at (relax_edge (nodes P) p q u ds e) (target P e)) (plus (distance_at ds u) (weight p q e))
    edge-reached h = by (distance_at ds u)
      where
        by : (a : Option ℤ) → AtMost (distance_at (taken a) (target P e)) (plus a (weight p q e))
        by none = at_most_none (distance_at ds (target P e))
        by (some d) = lowered-reached ds (target P e) (d +ℤ weight p q e) h

    edge-above : {es : Distances} → Below es ds → AtMost (distance_at es (target P e)) (plus (distance_at es u) (weight p q e)) →
        Below es (relax_edge (nodes P) p q u ds e)
    edge-above {es} h k = by (distance_at ds u) (h.at u)
      where
        by : (a : Option ℤ) → AtMost (distance_at es u) a → Below es (taken a)
        by none m = h
        by (some d) m =
            lowered-above ds (target P e) (d +ℤ weight p q e) h
            (at_most_trans (distance_at es (target P e)) (plus (distance_at es u) (weight p q e)) (some (d +ℤ weight p q e)) k
            (plus_mono (distance_at es u) (some d) (weight p q e) m))

  -- ---- the edges of a node

  -- no edge of u leads to a smaller distance
  abbrev pub SettledAt : Distances → ℕ → Type 0
  SettledAt ds u = (e : Edge) → Memᴰ e (edges P (node_at P u)) → AtMost (distance_at ds (target P e)) (plus (distance_at ds u) (weight p q e))

  -- an edge of u leads to x, at this distance
  abbrev pub LedTo : Distances → ℕ → ℕ → Option ℤ → Type 0
  LedTo ds u x a = (e : Edge) × Memᴰ e (edges P (node_at P u)) × (target P e ≡ x) × (a ≡ plus (distance_at ds u) (weight p q e))

  pub node-length : (ds : Distances) (u : ℕ) → length (relax_node P p q ds u) ≡ length ds
  unfolding relax_node
  node-length ds u = fold-length (relax_edge (nodes P) p q u) (edge-length u) (edges P (node_at P u)) ds

  pub node-below : (ds : Distances) (u : ℕ) → Below (relax_node P p q ds u) ds
  unfolding relax_node
  node-below ds u = fold-below (relax_edge (nodes P) p q u) (edge-below u) (edges P (node_at P u)) ds

  node-above : {es : Distances} (ds : Distances) (u : ℕ) → SettledAt es u → Below es ds → Below es (relax_node P p q ds u)
  unfolding relax_node
  node-above ds u settled = fold-above (relax_edge (nodes P) p q u) (edges P (node_at P u)) ds (λ cs e m h. edge-above u cs e h (settled e m))

  module _ (fits : too_large P ≡ false) (u : ℕ) (below : u < length (nodes P)) where
    pub node-reached : (ds : Distances) → length ds ≡ length (nodes P) → (e : Edge) → Memᴰ e (edges P (node_at P u)) →
        AtMost (distance_at (relax_node P p q ds u) (target P e)) (plus (distance_at ds u) (weight p q e))
    unfolding relax_node
    node-reached ds size e m =
        fold-reached (relax_edge (nodes P) p q u) (edge-below u) (edges P (node_at P u)) ds e (target P e) (plus (distance_at ds u) (weight p q e)) m
        (λ es n h.
        at_most_trans (distance_at (relax_edge (nodes P) p q u es e) (target P e)) (plus (distance_at es u) (weight p q e)) (plus (distance_at ds u) (weight p q e))
        (edge-reached u es e (omega (arith, target_below P fits u below e m, n, size)))
        (plus_mono (distance_at es u) (distance_at ds u) (weight p q e) (h.at u)))
        (edge-length u)

    -- Distances that are no greater, that no edge of u makes smaller, and each of which stood or is one to which an edge of u leads: they
    -- are what taking the edges of u leaves, in whatever order and whichever of them were tried.
    pub node-is : (ds es : Distances) → length ds ≡ length (nodes P) → length es ≡ length ds → Below es ds → SettledAt es u →
        ((x : ℕ) → x < length ds → (distance_at es x ≡ distance_at ds x) ⊎ LedTo ds u x (distance_at es x)) → relax_node P p q ds u ≡ es
    node-is ds es size same less settled origin =
        ext_get_or none (relax_node P p q ds u) es (node-length ds u ∙ sym same)
        (λ x h. at_most_antisymm (distance_at (relax_node P p q ds u) x) (distance_at es x) (low x (origin x (omega (arith, node-length ds u))))
        ((node-above ds u settled less).at x))
      where
        low : (x : ℕ) → (distance_at es x ≡ distance_at ds x) ⊎ LedTo ds u x (distance_at es x) → AtMost (distance_at (relax_node P p q ds u) x) (distance_at es x)
        low x (inl e) = subst (AtMost (distance_at (relax_node P p q ds u) x)) (sym e) ((node-below ds u).at x)
        low x (inr (e, m, t, d)) =
            subst (AtMost (distance_at (relax_node P p q ds u) x)) (sym d)
            (subst (λ (y : ℕ). AtMost (distance_at (relax_node P p q ds u) y) (plus (distance_at ds u) (weight p q e))) t (node-reached ds size e m))
