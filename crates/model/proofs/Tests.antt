-- Tests as facts and back.
-- Assumes nothing.
use mathlib.Core.Path.{◌≡◌, refl, sym, ◌∙◌, ap, ap₂, subst}
use mathlib.Core.Bool.{Bool, true, false, cond, not, ◌&&◌, ◌||◌, and-false, false≢true}
use mathlib.Core.Logic.{◌↔◌, ◌⊎◌, inl, inr, ⊎_elim}
use mathlib.Core.List.Memᴰ
use mathlib.Core.List.{List, [], ◌∷◌, Memᴰ}
use mathlib.Core.Option.{Option, none, some, none-ne-some}
use Prim.Native.Nat.{ℕ, zero, suc, ◌<◌, ◌≤◌}
use native.Mathlib.Omega.{arith}
use lib.Dec.{T, eqb}
use lib.ListN.{length, get_or}
use borrow.Author.Tests.{eqb-true, eq-eqb}
use Rattle.model.specs.Lists.{all, any, same_by, same_numbers, one}
use Rattle.model.proofs.Plan.{both}

-- a test that holds is true
pub is_true : (b : Bool) → T b → b ≡ true
is_true true h = refl
is_true false h = absurd h

-- a test that fails is false
pub is_false : (b : Bool) → (T b → ⊥) → b ≡ false
is_false true h = absurd (h tt)
is_false false h = refl

-- a true test holds
pub holds : {b : Bool} → b ≡ true → T b
holds e = subst T (sym e) tt

-- a false test does not hold
pub fails : {b : Bool} → b ≡ false → T b → ⊥
fails e h = subst T e h

-- a test counts once at most
pub one-le : (b : Bool) → one b ≤ 1
one-le true = omega arith
one-le false = omega arith

-- two tests that imply each other are equal
pub same_test : (a b : Bool) → (T a → T b) → (T b → T a) → a ≡ b
same_test true b f g = sym (is_true b (f tt))
same_test false b f g = sym (is_false b g)

-- two tests that decide the same are equal
pub same_decided {ℓ} : {X : Type ℓ} {a b : Bool} → (a ≡ true) ↔ X → (b ≡ true) ↔ X → a ≡ b
same_decided {a = a} {b = b} f g = same_test a b (λ h. holds (g.1 (f.0 (is_true a h)))) (λ h. holds (f.1 (g.0 (is_true b h))))

-- both tests hold
pub both_hold : (a b : Bool) → T a → T b → T (a && b)
both_hold true b h k = k
both_hold false b h k = h

-- of two tests that hold together, the first does
pub left-holds : (a b : Bool) → T (a && b) → T a
left-holds true b h = tt
left-holds false b h = h

-- and the second
pub right-holds : (a b : Bool) → T (a && b) → T b
right-holds true b h = h
right-holds false b h = absurd h

-- one of two tests holds
pub or_cases : (a b : Bool) → T (a || b) → T a ⊎ T b
or_cases true b h = inl tt
or_cases false b h = inr h

-- the first is enough
pub or_left : (a b : Bool) → T a → T (a || b)
or_left true b h = tt
or_left false b h = absurd h

-- the second is enough
pub or_right : (a b : Bool) → T b → T (a || b)
or_right true b h = tt
or_right false b h = h

-- two tests that are true are true together
pub true-and : (a b : Bool) → a ≡ true → b ≡ true → (a && b) ≡ true
true-and a b p q = ap₂ (λ s t. s && t) p q

-- the test that one implies the other
pub implies_test : (a b : Bool) → ((not a || b) ≡ true) ↔ (a ≡ true → b ≡ true)
implies_test true b = (λ h k. h, λ h. h refl)
implies_test false b = (λ h k. absurd (false≢true k), λ h. refl)

-- a test that must be true for a value
pub cond-some {ℓ} : {A : Type ℓ} (b : Bool) (o : Option A) {c : A} → cond b o none ≡ some c → (b ≡ true) × (o ≡ some c)
cond-some true o h = (refl, h)
cond-some false o {c} h = absurd (none-ne-some c h)

-- a test of all elements is the test of each
pub all-each {ℓ} : {A : Type ℓ} (f : A → Bool) (l : List A) → (all f l ≡ true) ↔ ((a : A) → Memᴰ a l → f a ≡ true)
all-each f [] = (λ h a m. absurd (Memᴰ.not-nil m), λ h. refl)
all-each f (x ∷ l) =
    let later = all-each f l in (
      λ h a m.
          let two = both (f x) (all f l) h in
          ⊎_elim (λ p. ap f p ∙ two.0) (later.0 two.1 a) (Memᴰ.cases_cons m),
      λ h. true-and (f x) (all f l) (h x (Memᴰ.head refl)) (later.1 (λ a m. h a (Memᴰ.tail m))),
    )

-- a test of some element is that there is one that passes
pub any_some {ℓ} : {A : Type ℓ} (f : A → Bool) (l : List A) → (any f l ≡ true) ↔ ((a : A) × Memᴰ a l × (f a ≡ true))
any_some f [] = (λ h. absurd (false≢true h), λ r. absurd (Memᴰ.not-nil r.1))
any_some f (x ∷ l) =
    let later = any_some f l in (
      λ h.
          ⊎_elim (λ t. (x, Memᴰ.head refl, is_true (f x) t))
          (λ t. let r = later.0 (is_true (any f l) t) in (r.0, Memᴰ.tail r.1, r.2))
          (or_cases (f x) (any f l) (holds h)),
      λ r.
          is_true (f x || any f l)
          (⊎_elim (λ e. or_left (f x) (any f l) (holds (ap f (sym e) ∙ r.2))) (λ m. or_right (f x) (any f l) (holds (later.1 (r.0, m, r.2))))
          (Memᴰ.cases_cons r.1)),
    )

-- a test that decides whether two are the same, of two lists one by one
module _ {ℓ} {A : Type ℓ} (same : A → A → Bool) (decides : (a b : A) → (same a b ≡ true) ↔ (a ≡ b)) where
  pub same_by_lem : (as' bs : List A) → (same_by same as' bs ≡ true) ↔ (as' ≡ bs)
  same_by_lem [] [] = (λ h. refl, λ e. refl)
  same_by_lem [] (b ∷ bs) = (λ h. absurd (false≢true h), λ e. cc)
  same_by_lem (a ∷ as') [] = (λ h. absurd (false≢true h), λ e. cc)
  same_by_lem (a ∷ as') (b ∷ bs) =
      let later = same_by_lem as' bs in (
        λ h. let two = both (same a b) (same_by same as' bs) h in ap₂ (λ c cs. c ∷ cs) ((decides a b).0 two.0) (later.0 two.1),
        λ e. true-and (same a b) (same_by same as' bs) ((decides a b).1 (cc)) (later.1 (cc)),
      )

-- such a test of two lists by their places
module _ {ℓ} {A : Type ℓ} (same : A → A → Bool) where
  pub same_length : (as' bs : List A) → (length as' ≡ length bs → ⊥) → same_by same as' bs ≡ false
  same_length [] [] n = absurd (n refl)
  same_length [] (b ∷ bs) n = refl
  same_length (a ∷ as') [] n = refl
  same_length (a ∷ as') (b ∷ bs) n = ap (λ t. same a b && t) (same_length as' bs (λ e. n (ap suc e))) ∙ and-false (same a b)

  pub same-each : (as' bs : List A) (d e : A) → length as' ≡ length bs → ((i : ℕ) → i < length as' → same (get_or as' i d) (get_or bs i e) ≡ true) →
      same_by same as' bs ≡ true
  same-each [] [] d e n h = refl
  same-each [] (b ∷ bs) d e n h = absurd (omega (arith, n))
  same-each (a ∷ as') [] d e n h = absurd (omega (arith, n))
  same-each (a ∷ as') (b ∷ bs) d e n h =
      true-and (same a b) (same_by same as' bs) (h 0 (omega arith)) (same-each as' bs d e (omega (arith, n)) (λ i l. h (suc i) (omega (arith, l))))

  pub same_not : (as' bs : List A) (d e : A) (i : ℕ) → i < length as' → i < length bs → same (get_or as' i d) (get_or bs i e) ≡ false → same_by same as' bs ≡ false
  same_not [] bs d e i h k f = absurd (omega (arith, h))
  same_not (a ∷ as') [] d e i h k f = absurd (omega (arith, k))
  same_not (a ∷ as') (b ∷ bs) d e zero h k f = ap (λ t. t && same_by same as' bs) f
  same_not (a ∷ as') (b ∷ bs) d e (suc i) h k f =
      ap (λ t. same a b && t) (same_not as' bs d e i (omega (arith, h)) (omega (arith, k)) f) ∙ and-false (same a b)

-- of two numbers, and of two lists of them
pub same_number : (a b : ℕ) → (eqb a b ≡ true) ↔ (a ≡ b)
same_number a b = (eqb-true a b, eq-eqb a b)

pub same_numbers_lem : (as' bs : List ℕ) → (same_numbers as' bs ≡ true) ↔ (as' ≡ bs)
same_numbers_lem = same_by_lem eqb same_number
