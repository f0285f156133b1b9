-- The way up by parents to number 0, about plain functions of numbers.
-- Assumes nothing.
use mathlib.Core.Path.{◌≡◌, refl, sym, ◌∙◌, ap, subst}
use mathlib.Core.Bool.{Bool, true, cond}
use mathlib.Core.Logic.{⊎_elim}
use mathlib.Core.List.Memᴰ
use mathlib.Core.List.{List, [], ◌∷◌, Memᴰ}
use Prim.Native.Nat.{ℕ, zero, suc, ◌+◌, ◌-◌, ◌<◌, ◌≤◌}
use native.Mathlib.Nat.{zero-add, suc-add, not-suc-le-zero}
use native.Mathlib.Decide.{dec_le, ℕ_discrete}
use native.Mathlib.Omega.{arith}
use lib.ListN.{length}
use borrow.Author.Tests.{eq-eqb, ne_eqb}
use Rattle.model.specs.Lists.{up_from}
use Rattle.model.proofs.Lists.{length-up_from, mem-up_from}
use Rattle.theory.specs.Search.{above, Before, changed, Upward}
use Rattle.model.proofs.Distinct.{Distinct, distinct-le}

module _ {ℓ} {A : Type ℓ} where
  pub changed-at : (f : ℕ → A) (v : ℕ) (a : A) (x : ℕ) → x ≡ v → changed f v a x ≡ a
  changed-at f v a x e = ap (λ b. cond b a (f x)) (eq-eqb x v e)

  pub changed_off : (f : ℕ → A) (v : ℕ) (a : A) (x : ℕ) → (x ≡ v → ⊥) → changed f v a x ≡ f x
  changed_off f v a x n = ap (λ b. cond b a (f x)) (ne_eqb x v n)

module _ (parent : ℕ → ℕ) where
  -- i steps, then m steps
  pub above-add : (i m v : ℕ) → above parent (i + m) v ≡ above parent m (above parent i v)
  above-add zero m v = ap (λ (k : ℕ). above parent k v) (zero-add m)
  above-add (suc i) m v = ap (λ (k : ℕ). above parent k v) (suc-add i m) ∙ above-add i m (parent v)

  -- one step more is the parent
  pub above-next : (k v : ℕ) → above parent (suc k) v ≡ parent (above parent k v)
  above-next zero v = refl
  above-next (suc k) v = above-next k (parent v)

  -- no number is before the first
  pub before-none : (x v : ℕ) → Before parent x 0 v
  before-none x v i h e = absurd (not-suc-le-zero h)

  -- one number more that is not x
  pub before_more : (x k v : ℕ) → Before parent x k v → (above parent k v ≡ x → ⊥) → Before parent x (suc k) v
  before_more x k v b n i h e = by (ℕ_discrete i k)
    where
      by : Dec (i ≡ k) → ⊥
      by (yes p) = n (subst (λ (j : ℕ). above parent j v ≡ x) p e)
      by (no q) = b i (omega arith) e

  -- from the parent on
  pub before-up : (x k v : ℕ) → Before parent x (suc k) v → Before parent x k (parent v)
  before-up x k v b i h e = b (suc i) (omega arith) e

  -- a number other than 0 that a way to 0 does not pass is not its first
  pub before-first : (x k v : ℕ) → above parent k v ≡ 0 → Before parent x k v → (x ≡ 0 → ⊥) → v ≡ x → ⊥
  before-first x zero v e b n p = n (sym p ∙ e)
  before-first x (suc k) v e b n p = b 0 (omega arith) p

  -- a way that comes to 0 comes there a first time
  pub first-zero : (k v : ℕ) → above parent k v ≡ 0 → (j : ℕ) × (j ≤ k) × (above parent j v ≡ 0) × Before parent 0 j v
  first-zero zero v e = (0, omega arith, e, before-none 0 v)
  first-zero (suc k) v e = by (ℕ_discrete v 0) (first-zero k (parent v) e)
    where
      by : Dec (v ≡ 0) → (j : ℕ) × (j ≤ k) × (above parent j (parent v) ≡ 0) × Before parent 0 j (parent v) →
          (j : ℕ) × (j ≤ suc k) × (above parent j v ≡ 0) × Before parent 0 j v
      by (yes p) r = (0, omega arith, p, before-none 0 v)
      by (no q) r = (suc r.0, omega (arith, r.1), r.2, before)
        where
          before : Before parent 0 (suc r.0) v
          before zero h e = q e
          before (suc i) h e = r.3 i (omega arith) e

  -- the numbers on the way up, as far as k steps
  abbrev way : ℕ → ℕ → List ℕ
  way zero v = v ∷ []
  way (suc k) v = v ∷ way k (parent v)

  length-way : (k v : ℕ) → length (way k v) ≡ suc k
  length-way zero v = refl
  length-way (suc k) v = ap suc (length-way k (parent v))

  -- each of them is so many steps up
  mem-way : (k v x : ℕ) → Memᴰ x (way k v) → (i : ℕ) × (i ≤ k) × (above parent i v ≡ x)
  mem-way zero v x m = ⊎_elim (λ p. (0, omega arith, sym p)) (λ j. absurd (Memᴰ.not-nil j)) (Memᴰ.cases_cons m)
  mem-way (suc k) v x m =
      ⊎_elim (λ p. (0, omega arith, sym p)) (λ j. let r = mem-way k (parent v) x j in (suc r.0, omega (arith, r.1), r.2))
      (Memᴰ.cases_cons m)

  -- a number that comes again on the way to the first 0 would come to 0 before
  no_return : (k i v : ℕ) → i ≤ k → above parent (suc k) v ≡ 0 → Before parent 0 (suc k) v → above parent (suc i) v ≡ v → ⊥
  no_return k i v h e b r =
      let parts : suc i + (k - i) ≡ suc k = omega arith in
      b (k - i) (omega arith)
      (ap (above parent (k - i)) (sym r) ∙ sym (above-add (suc i) (k - i) v)
      ∙ ap (λ (j : ℕ). above parent j v) parts ∙ e)

  -- so the numbers on the way to the first 0 are distinct
  way-distinct : (k v : ℕ) → above parent k v ≡ 0 → Before parent 0 k v → Distinct (way k v)
  way-distinct zero v e b = (Memᴰ.not-nil, tt)
  way-distinct (suc k) v e b = (
    λ m. let r = mem-way k (parent v) v m in no_return k r.0 v r.1 e b r.2,
    way-distinct k (parent v) e (before-up 0 k v b),
  )

  -- a way up with the same parents is the same
  above_same : (parent' : ℕ → ℕ) (k v : ℕ) → ((i : ℕ) → i < k → parent' (above parent i v) ≡ parent (above parent i v)) →
      above parent' k v ≡ above parent k v
  above_same parent' zero v s = refl
  above_same parent' (suc k) v s =
      ap (above parent' k) (s 0 (omega arith)) ∙ above_same parent' k (parent v) (λ i h. s (suc i) (omega arith))

  -- so v comes to 0 by its new parent
  rooted-at : (v u k : ℕ) → above parent k u ≡ 0 → Before parent v k u → (x : ℕ) → x ≡ v → above (changed parent v u) (suc k) x ≡ 0
  rooted-at v u k e b x p = ap (above (changed parent v u) k) (changed-at parent v u x p)
      ∙ above_same (changed parent v u) k u (λ i h. changed_off parent v u (above parent i u) (b i h)) ∙ e

  -- and a way up to 0 still comes there, if the new parent's does without v
  rooted-changed : (v u k : ℕ) → above parent k u ≡ 0 → Before parent v k u → (m x : ℕ) → above parent m x ≡ 0 →
      (i : ℕ) × (above (changed parent v u) i x ≡ 0)
  rooted-changed v u k e b zero x d = (0, d)
  rooted-changed v u k e b (suc m) x d = by (ℕ_discrete x v) (rooted-changed v u k e b m (parent x) d)
    where
      by : Dec (x ≡ v) → (i : ℕ) × (above (changed parent v u) i (parent x) ≡ 0) → (i : ℕ) × (above (changed parent v u) i x ≡ 0)
      by (yes p) r = (suc k, rooted-at v u k e b x p)
      by (no q) r = (suc r.0, ap (above (changed parent v u) r.0) (changed_off parent v u x q) ∙ r.1)

-- at the start only 0 is known
pub upward-start : (n : ℕ) (known : ℕ → Bool) (parent : ℕ → ℕ) → known 0 ≡ true → ((v : ℕ) → v < n → known v ≡ true → v ≡ 0) →
    Upward n known parent
upward-start n known parent k only = record {
  root = k;
  up = λ v h e q. absurd (q (only v h e));
  rooted = λ v h e. (0, only v h e);
}

-- a number that becomes known stays so
pub known-stays : (known : ℕ → Bool) (v x : ℕ) → known x ≡ true → changed known v true x ≡ true
known-stays known v x e = by (ℕ_discrete x v)
  where
    by : Dec (x ≡ v) → changed known v true x ≡ true
    by (yes p) = changed-at known v true x p
    by (no q) = changed_off known v true x q ∙ e

module _ {n : ℕ} {known : ℕ → Bool} {parent : ℕ → ℕ} (t : Upward n known parent) where
  -- the numbers on the way up, as far as the first 0, are below n and known
  pub upward-way : (j v : ℕ) → v < n → known v ≡ true → Before parent 0 j v →
      (above parent j v < n) × (known (above parent j v) ≡ true)
  upward-way zero v h e b = (h, e)
  upward-way (suc j) v h e b =
      let l = t.up v h e (b 0 (omega arith)) in
      upward-way j (parent v) l.0 l.1 (before-up parent 0 j v b)

  -- the first 0 on the way up is fewer than n steps away
  pub upward-first : (v : ℕ) → v < n → known v ≡ true → (k : ℕ) × (k < n) × (above parent k v ≡ 0) × Before parent 0 k v
  upward-first v h e =
      let r = t.rooted v h e in
      let f = first-zero parent r.0 v r.1 in
      let few = distinct-le (way parent f.0 v) (up_from 0 n) (way-distinct parent f.0 v f.2 f.3)
      (λ a m.
      let i = mem-way parent f.0 v a m in
      mem-up_from 0 n (omega arith)
      (subst (λ (x : ℕ). x < 0 + n) i.2
      (omega (arith, (upward-way i.0 v h e (λ j l. f.3 j (omega (arith, i.1)))).0)))) in
      (f.0, omega (arith, few, length-way parent f.0 v, length-up_from 0 n), f.2, f.3)

  -- and no number before it is n steps away
  pub upward-short : (j v : ℕ) → v < n → known v ≡ true → Before parent 0 j v → j < n
  upward-short j v h e b = let f = upward-first v h e in by f (dec_le j f.0)
    where
      by : (f : (k : ℕ) × (k < n) × (above parent k v ≡ 0) × Before parent 0 k v) → Dec (j ≤ f.0) → j < n
      by f (yes l) = omega (arith, f.1)
      by f (no l) = absurd (b f.0 (omega arith) f.2)

  -- functions that are the same below n
  pub upward-same : (known' : ℕ → Bool) (parent' : ℕ → ℕ) → 0 < n → ((x : ℕ) → x < n → known x ≡ known' x) →
      ((x : ℕ) → x < n → parent x ≡ parent' x) → Upward n known' parent'
  upward-same known' parent' some k p = record {
    root = sym (k 0 some) ∙ t.root;
    up = λ v h e q.
        let was = t.up v h (k v h ∙ e) q in (
          subst (λ (y : ℕ). y < n) (p v h) was.0,
          ap known' (sym (p v h)) ∙ sym (k (parent v) was.0) ∙ was.1,
        );
    rooted = λ v h e.
        let e' : known v ≡ true = k v h ∙ e in
        let f = upward-first v h e' in (
          f.0,
          above_same parent parent' f.0 v
              (λ i l. sym (p (above parent i v) (upward-way i v h e' (λ j m. f.3 j (omega arith))).0)) ∙ f.2,
        );
  }

  -- v, that is not above u, with u for its parent
  pub upward-changed : (u v k : ℕ) → u < n → known u ≡ true → above parent k u ≡ 0 → Before parent v k u →
      Upward n (changed known v true) (changed parent v u)
  upward-changed u v k below e top b = record {
    root = known-stays known v 0 t.root;
    up = λ x h d q. up_of x h d q (ℕ_discrete x v);
    rooted = λ x h d. rooted-of x h d (ℕ_discrete x v);
  }
    where
      parent' : ℕ → ℕ
      parent' = changed parent v u

      known' : ℕ → Bool
      known' = changed known v true

      up_to : (x y : ℕ) → parent' x ≡ y → (y < n) × (known y ≡ true) → (parent' x < n) × (known' (parent' x) ≡ true)
      up_to x y to r = (subst (λ (z : ℕ). z < n) (sym to) r.0, ap known' to ∙ known-stays known v y r.1)

      up_of : (x : ℕ) → x < n → known' x ≡ true → (x ≡ 0 → ⊥) → Dec (x ≡ v) → (parent' x < n) × (known' (parent' x) ≡ true)
      up_of x h d q (yes p) = up_to x u (changed-at parent v u x p) (below, e)
      up_of x h d q (no o) =
          up_to x (parent x) (changed_off parent v u x o) (t.up x h (sym (changed_off known v true x o) ∙ d) q)

      rooted-of : (x : ℕ) → x < n → known' x ≡ true → Dec (x ≡ v) → (i : ℕ) × (above parent' i x ≡ 0)
      rooted-of x h d (yes p) = (suc k, rooted-at parent v u k top b x p)
      rooted-of x h d (no o) =
          let was = t.rooted x h (sym (changed_off known v true x o) ∙ d) in
          rooted-changed parent v u k top b was.0 x was.1
