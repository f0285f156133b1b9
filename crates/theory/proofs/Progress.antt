-- How far a search has come from one state to another: the laws that the proofs of the program cite, over any links between numbers.
-- Assumes nothing.
use mathlib.Core.Path.{◌≡◌, refl, sym, ◌∙◌, ap, subst}
use mathlib.Core.Bool.{Bool, true, false, ◌||◌, true≢false, false≢true}
use mathlib.Core.Logic.{◌⊎◌, inl, inr}
use Prim.Native.Nat.{ℕ, ◌<◌}
use native.Mathlib.Decide.{ℕ_discrete}
use native.Mathlib.Omega.{arith}
use lib.IntN.{ℤ, ◌+ℤ◌}
use Rattle.theory.specs.Search.{changed, Within, State, Done, Search, Progress, Stays, LedFrom, Spread}
use Rattle.theory.proofs.Upward.{changed-at, changed_off}
use Rattle.theory.proofs.Search.{relaxed, tried, Alike, remaining_alike, later_refl, later_trans, later-tried, later_alike, Relaxable, search_alike, search-tried, search_relax, relax_later, relax_from_lem, relax_less}

module _ (Link : ℕ → ℕ → ℕ → ℤ → Type 0) where
  -- nothing is done
  pub progress-none : {n c : ℕ} {s : State} → Search Link n c s → Progress Link n c s s false
  progress-none {n} {s = s} r = record {
    search = r;
    later = later_refl n s;
    most = omega arith;
    less = λ e. absurd (false≢true e);
    still = λ e x h. (refl, refl);
    fresh = λ e x h a. a;
  }

  -- one after the other
  pub progress-then : {n c : ℕ} {s s' s'' : State} {a b : Bool} → Progress Link n c s s' a → Progress Link n c s' s'' b → Progress Link n c s s'' (a || b)
  progress-then {a = true} p q = record {
    search = q.search;
    later = later_trans p.later q.later;
    most = omega (arith, p.most, q.most);
    less = λ e. omega (arith, p.less refl, q.most);
    still = λ e. absurd (true≢false e);
    fresh = λ e. absurd (true≢false e);
  }
  progress-then {a = false} p q = record {
    search = q.search;
    later = later_trans p.later q.later;
    most = omega (arith, p.most, q.most);
    less = λ e. omega (arith, p.most, q.less e);
    still = λ e x h. ((q.still e x h).0 ∙ (p.still refl x h).0, (q.still e x h).1 ∙ (p.still refl x h).1);
    fresh = λ e x h k. p.fresh refl x h (q.fresh e x h k);
  }

  -- a number is reached at a smaller distance
  pub progress_relax : {n c : ℕ} {s : State} {u l v : ℕ} {w : ℤ} → Within Link n c → Search Link n c s → Relaxable Link n s u l v w →
      Progress Link n c s (relaxed s u l v (s.dist u +ℤ w)) true
  progress_relax light r x = record {
    search = search_relax Link r x light;
    later = relax_later Link x;
    most = omega (arith, relax_less Link r x light);
    less = λ e. relax_less Link r x light;
    still = λ e. absurd (true≢false e);
    fresh = λ e. absurd (true≢false e);
  }

  -- a number whose links are done waits no longer
  pub progress-tried : {n c : ℕ} {s : State} (u : ℕ) → Search Link n c s → Done Link n s u → Progress Link n c s (tried s u) false
  progress-tried {n} {s = s} u r d = record {
    search = search-tried Link r u d;
    later = later-tried n s u;
    most = omega arith;
    less = λ e. absurd (false≢true e);
    still = λ e x h. (refl, refl);
    fresh = λ e x h k. by x k (ℕ_discrete x u);
  }
    where
      by : (x : ℕ) → changed s.waiting u false x ≡ true → Dec (x ≡ u) → s.waiting x ≡ true
      by x k (yes p) = absurd (false≢true (sym (changed-at s.waiting u false x p) ∙ k))
      by x k (no q) = sym (changed_off s.waiting u false x q) ∙ k

  -- up to a state that is the same below n
  pub progress_alike : {n c : ℕ} {s s' s'' : State} {moved : Bool} → 0 < n → Progress Link n c s s' moved → Alike n s' s'' → Progress Link n c s s'' moved
  progress_alike {n} {c} {s} {s'} {s''} some p a =
      let same = remaining_alike c a in record {
        search = search_alike Link p.search some a;
        later = later_trans p.later (later_alike a);
        most = omega (arith, same, p.most);
        less = λ e. omega (arith, same, p.less e);
        still = λ e x h. (sym (a.known x h) ∙ (p.still e x h).0, sym (a.dist x h) ∙ (p.still e x h).1);
        fresh = λ e x h k. p.fresh e x h (a.waiting x h ∙ k);
      }

  -- ---- what links of one number lead to

  pub spread_none : {n : ℕ} {s : State} {u : ℕ} → Spread Link n s s u
  spread_none = record { source = refl; origin = λ x h. inl (refl, refl) }

  pub spread-then : {n : ℕ} {s s' s'' : State} {u : ℕ} → Spread Link n s s' u → Spread Link n s' s'' u → Spread Link n s s'' u
  spread-then {s = s} {s'} {s''} {u} a b = record { source = b.source ∙ a.source; origin = λ x h. by x (a.origin x h) (b.origin x h) }
    where
      by : (x : ℕ) → Stays s s' x ⊎ LedFrom Link s s' u x → Stays s' s'' x ⊎ LedFrom Link s' s'' u x → Stays s s'' x ⊎ LedFrom Link s s'' u x
      by x (inl e) (inl d) = inl (d.0 ∙ e.0, d.1 ∙ e.1)
      by x (inr (l, w, k, e, f)) (inl d) = inr (l, w, k, d.0 ∙ e, d.1 ∙ f)
      by x was (inr (l, w, k, e, f)) = inr (l, w, k, e, f ∙ ap (λ z. z +ℤ w) a.source)

  -- a number is reached at a smaller distance
  pub spread_relax : {n : ℕ} {s : State} {u l v : ℕ} {w : ℤ} → Relaxable Link n s u l v w → Spread Link n s (relaxed s u l v (s.dist u +ℤ w)) u
  spread_relax {s = s} {u} {l} {v} {w} r = record { source = relax_from_lem Link r; origin = λ x h. by x (ℕ_discrete x v) }
    where
      z : ℤ
      z = s.dist u +ℤ w

      by : (x : ℕ) → Dec (x ≡ v) → Stays s (relaxed s u l v z) x ⊎ LedFrom Link s (relaxed s u l v z) u x
      by x (yes p) =
          inr (l, w, subst (λ (y : ℕ). Link u l y w) (sym p) r.link, changed-at s.known v true x p, changed-at s.dist v z x p)
      by x (no q) = inl (changed_off s.known v true x q, changed_off s.dist v z x q)

  -- up to a state that is the same below n
  pub spread_alike : {n : ℕ} {s s' s'' : State} {u : ℕ} → u < n → Spread Link n s s' u → Alike n s' s'' → Spread Link n s s'' u
  spread_alike {n} {s} {s'} {s''} {u} below a e = record {
    source = sym (e.dist u below) ∙ a.source;
    origin = λ x h. by x h (a.origin x h);
  }
    where
      by : (x : ℕ) → x < n → Stays s s' x ⊎ LedFrom Link s s' u x → Stays s s'' x ⊎ LedFrom Link s s'' u x
      by x h (inl d) = inl (sym (e.known x h) ∙ d.0, sym (e.dist x h) ∙ d.1)
      by x h (inr (l, w, k, d, f)) = inr (l, w, k, sym (e.known x h) ∙ d, sym (e.dist x h) ∙ f)
