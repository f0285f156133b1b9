-- The state of a search for distances from number 0, and what each of its turns does to it, over any links between numbers.
-- Assumes nothing.
use mathlib.Core.Path.{◌≡◌, refl, sym, ◌∙◌, ap, subst, subst₂}
use mathlib.Core.Bool.{true, false, true≢false}
use mathlib.Core.List.{List, [], ◌∷◌, ◌++◌}
use Prim.Native.Nat.{ℕ, suc, ◌*◌, ◌<◌, ◌≤◌}
use native.Mathlib.Decide.{ℕ_discrete}
use native.Mathlib.Omega.{arith}
use lib.IntN.{ℤ, pos, ◌+ℤ◌}
use lib.ListN.{length}
use lib.Signed.{◌≤ℤ◌, ◌<ℤ◌, ≤ℤ_refl}
use Rattle.words.proofs.Signed.{≤ℤ_iff, <ℤ-iff, ≤ℤ_trans}
use Rattle.theory.specs.Search.{above, Before, changed, Taken, trail, Path, Within, State, remaining, Quiet, Later, Done, Search}
use Rattle.theory.proofs.Upward.{before-first, changed-at, changed_off, known-stays}
use Rattle.theory.proofs.Tree.{Settled, tree-start, tree_settled, tree-cycle, tree-least, tree-same, tree_relax, changed_lower}
use Rattle.theory.proofs.Measure.{left_less, left-same, high-start, high-most, high_same, high_relax}

-- v is reached from u by the label l at the distance z, and waits
abbrev pub relaxed : State → ℕ → ℕ → ℕ → ℤ → State
relaxed s u l v z = record {
  known = changed s.known v true;
  waiting = changed s.waiting v true;
  dist = changed s.dist v z;
  parent = changed s.parent v u;
  label = changed s.label v l;
}

-- u waits no longer
abbrev pub tried : State → ℕ → State
tried s u = record {
  known = s.known;
  waiting = changed s.waiting u false;
  dist = s.dist;
  parent = s.parent;
  label = s.label;
}

-- a distance from −n × c to n × c
abbrev pub InRange : ℕ → ℕ → ℤ → Type 0
InRange n c z = (z ≤ℤ pos (n * c)) × (pos 0 ≤ℤ (z +ℤ pos (n * c)))

-- two states are the same below n
pub record Alike (n : ℕ) (s s' : State) : Type 0 where
  pub known : (x : ℕ) → x < n → s.known x ≡ s'.known x
  pub waiting : (x : ℕ) → x < n → s.waiting x ≡ s'.waiting x
  pub dist : (x : ℕ) → x < n → s.dist x ≡ s'.dist x
  pub parent : (x : ℕ) → x < n → s.parent x ≡ s'.parent x
  pub label : (x : ℕ) → x < n → s.label x ≡ s'.label x

pub remaining_alike : {n : ℕ} {s s' : State} (c : ℕ) → Alike n s s' → remaining n c s ≡ remaining n c s'
remaining_alike {n} {s} {s'} c a = left-same (n * c) n s.known s'.known s.dist s'.dist a.known a.dist

pub later_refl : (n : ℕ) (s : State) → Later n s s
later_refl n s = record { known = λ x h e. e; dist = λ x h e. ≤ℤ_refl (s.dist x) }

pub later_trans : {n : ℕ} {s s' s'' : State} → Later n s s' → Later n s' s'' → Later n s s''
later_trans a b = record {
  known = λ x h e. b.known x h (a.known x h e);
  dist = λ x h e. ≤ℤ_trans (b.dist x h (a.known x h e)) (a.dist x h e);
}

pub later-tried : (n : ℕ) (s : State) (u : ℕ) → Later n s (tried s u)
later-tried n s u = record { known = λ x h e. e; dist = λ x h e. ≤ℤ_refl (s.dist x) }

pub later_alike : {n : ℕ} {s s' : State} → Alike n s s' → Later n s s'
later_alike {s = s} a = record {
  known = λ x h e. sym (a.known x h) ∙ e;
  dist = λ x h e. subst (λ z. z ≤ℤ s.dist x) (a.dist x h) (≤ℤ_refl (s.dist x));
}

module _ (Link : ℕ → ℕ → ℕ → ℤ → Type 0) where
  -- v, that is not above u, can be reached from u by the label l at a smaller distance
  pub record Relaxable (n : ℕ) (s : State) (u l v : ℕ) (w : ℤ) : Type 0 where
    pub from : u < n
    pub to : v < n
    pub is_known : s.known u ≡ true
    pub link : Link u l v w
    pub apart : v ≡ 0 → ⊥
    pub steps : ℕ
    pub top : above s.parent steps u ≡ 0
    pub before : Before s.parent v steps u
    pub less : s.known v ≡ true → (s.dist u +ℤ w) <ℤ s.dist v

  module _ {n : ℕ} {s : State} {u l v : ℕ} {w : ℤ} (x : Relaxable n s u l v w) where
    relax_no_more : s.known v ≡ true → (s.dist u +ℤ w) ≤ℤ s.dist v
    relax_no_more e =
        (≤ℤ_iff (s.dist u +ℤ w) (s.dist v)).1 (omega (arith, (<ℤ-iff (s.dist u +ℤ w) (s.dist v)).0 (x.less e)))

    -- what was known stays, at no greater distance
    pub relax_later : Later n s (relaxed s u l v (s.dist u +ℤ w))
    relax_later = record {
      known = λ y h e. known-stays s.known v y e;
      dist = λ y h e. changed_lower s.known s.dist v (s.dist u +ℤ w) relax_no_more y e;
    }

    -- u at the same
    pub relax_from_lem : (relaxed s u l v (s.dist u +ℤ w)).dist u ≡ s.dist u
    relax_from_lem = changed_off s.dist v (s.dist u +ℤ w) u (before-first s.parent v x.steps u x.top x.before x.apart)

  -- a state in which 0 alone is known, at the distance 0, and waits
  pub search-start : (n c : ℕ) (s : State) → s.known 0 ≡ true → s.waiting 0 ≡ true → s.dist 0 ≡ pos 0 →
      ((v : ℕ) → v < n → s.known v ≡ true → v ≡ 0) → Search Link n c s
  search-start n c s k a d only = record {
    tree = tree-start Link n s.known s.dist s.parent s.label k d only;
    high = high-start n c s.known s.dist d only;
    done = λ u h e f. absurd (true≢false (sym a ∙ ap s.waiting (sym (only u h e)) ∙ f));
  }

  -- every known distance is in range
  pub search-within : {n c : ℕ} {s : State} → Search Link n c s → Within Link n c → (v : ℕ) → v < n → s.known v ≡ true →
      InRange n c (s.dist v)
  search-within {n} {c} {s} r light v h e =
      (high-most n c s.known s.dist r.high v h e, tree-least Link r.tree c light v h e)

  module _ {n c : ℕ} {s : State} (r : Search Link n c s) where
    -- a state that is the same below n
    pub search_alike : {s' : State} → 0 < n → Alike n s s' → Search Link n c s'
    search_alike {s'} some a = record {
      tree = tree-same Link r.tree s'.known s'.dist s'.parent s'.label some a.known a.dist a.parent a.label;
      high = high_same n c s.known s'.known s.dist s'.dist a.known a.dist r.high;
      done = λ u h e f l v w g k.
          let was = r.done u h (a.known u h ∙ e) (a.waiting u h ∙ f) l v w g k in (
            sym (a.known v g) ∙ was.0,
            subst₂ (λ y z. y ≤ℤ (z +ℤ w)) (a.dist v g) (a.dist u h) was.1,
          );
    }

    -- a number whose links are done waits no longer
    pub search-tried : (u : ℕ) → Done Link n s u → Search Link n c (tried s u)
    search-tried u d = record {
      tree = r.tree;
      high = r.high;
      done = λ x h e f. done-of x h e f (ℕ_discrete x u);
    }
      where
        done-of : (x : ℕ) → x < n → s.known x ≡ true → changed s.waiting u false x ≡ false → Dec (x ≡ u) → Done Link n s x
        done-of x h e f (yes p) = subst (λ (y : ℕ). Done Link n s y) (sym p) d
        done-of x h e f (no q) = r.done x h e (sym (changed_off s.waiting u false x q) ∙ f)

    -- a link to a smaller distance, from a number below in the tree, closes a cycle of at most n links that costs less than 0
    pub search-cycle : (u l v j : ℕ) (w : ℤ) → u < n → s.known u ≡ true → Link u l v w → (s.dist u +ℤ w) <ℤ s.dist v →
        above s.parent j u ≡ v → Before s.parent 0 j u →
        (z : ℤ) × Path Link v v (trail s.parent s.label j u ++ (record { node = u; label = l } ∷ [])) z × (z <ℤ pos 0) × (suc j ≤ n)
    search-cycle u l v j w h e k a t b = tree-cycle Link r.tree u l v j w h e k a t b

    -- where none waits, no link leads to an unknown number or to a smaller distance
    pub search_settled : Quiet n s → Settled Link n s.known s.dist
    search_settled q u h e = r.done u h e (q u h e)

    -- and every known number has a path of fewer than n links that is as long as its distance
    pub search_path : Quiet n s → (v : ℕ) → v < n → s.known v ≡ true → (ss : List Taken) × (length ss < n) × Path Link 0 v ss (s.dist v)
    search_path q = tree_settled Link r.tree (search_settled q)

    module _ {u l v : ℕ} {w : ℤ} (x : Relaxable n s u l v w) where
      abbrev z : ℤ
      z = s.dist u +ℤ w

      abbrev s' : State
      s' = relaxed s u l v z

      -- links that are done stay so
      done-after : (y : ℕ) → y < n → s'.known y ≡ true → s'.waiting y ≡ false → Dec (y ≡ v) → Done Link n s' y
      done-after y h e f (yes p) = absurd (true≢false (sym (changed-at s.waiting v true y p) ∙ f))
      done-after y h e f (no q) = λ m t a g k.
          let was =
          r.done y h (sym (changed_off s.known v true y q) ∙ e) (sym (changed_off s.waiting v true y q) ∙ f) m t a g k in (
            (relax_later x).known t g was.0,
            subst (λ b. s'.dist t ≤ℤ (b +ℤ a)) (sym (changed_off s.dist v z y q))
                (≤ℤ_trans ((relax_later x).dist t g was.0) was.1),
          )

      -- a number is reached at a smaller distance
      pub search_relax : Within Link n c → Search Link n c (relaxed s u l v (s.dist u +ℤ w))
      search_relax light = record {
        tree = tree_relax Link r.tree u l v x.steps w x.from x.is_known x.apart x.link x.top x.before (relax_no_more x);
        high =
            high_relax n c s.known s.dist r.high u v w x.from x.to x.is_known
            (light u l v w x.from x.to x.link).0 (relax_no_more x);
        done = λ y h e f. done-after y h e f (ℕ_discrete y v);
      }

      -- the new distance is in range
      pub relax_within : Within Link n c → InRange n c (s.dist u +ℤ w)
      relax_within light =
          subst (InRange n c) (changed-at s.dist v z v refl)
          (search-within (search_relax light) light v x.to (changed-at s.known v true v refl))

      -- and less remains
      pub relax_less : Within Link n c → remaining n c (relaxed s u l v (s.dist u +ℤ w)) < remaining n c s
      relax_less light =
          let range = relax_within light in
          left_less (n * c) n s.known s.dist v z x.to range.1 range.0 x.less
