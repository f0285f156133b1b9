-- Laws of the last place where a function has a value. Assumes nothing.
use mathlib.Core.Path.{◌≡◌, refl, sym, ap, ap₂, ◌∙◌}
use mathlib.Core.Bool.{Bool, true, false, cond}
use Prim.Native.Nat.{ℕ, zero, suc, ◌≤◌, ◌<◌}
use native.Mathlib.Decide.{dec_lt}
use native.Mathlib.Omega.{arith}
use native.Mathlib.Nat.{not-suc-le-zero}
use lib.Dec.{eqb}
use borrow.Author.Tests.{eqb-true, eqb-false, eq-eqb, ne_eqb}
use Rattle.store.specs.Store.{last_of}

pub last-here : (f : ℕ → ℕ) (h k : ℕ) → f k ≡ h → last_of f h (suc k) ≡ suc k
unfolding last_of
last-here f h k e = rw (eq-eqb (f k) h e)

pub last_there : (f : ℕ → ℕ) (h k : ℕ) → (f k ≡ h → ⊥) → last_of f h (suc k) ≡ last_of f h k
unfolding last_of
last_there f h k n = rw (ne_eqb (f k) h n)

pub last-le : (f : ℕ → ℕ) (h k : ℕ) → last_of f h k ≤ k
unfolding last_of
last-le f h zero = omega arith
last-le f h (suc k) = go (eqb (f k) h) (last-le f h k)
  where
    go : (b : Bool) → last_of f h k ≤ k → cond b (suc k) (last_of f h k) ≤ suc k
    go true l = omega arith
    go false l = omega arith

-- the value stands there
pub last-is : (f : ℕ → ℕ) (h k j : ℕ) → last_of f h k ≡ suc j → f j ≡ h
unfolding last_of
last-is f h zero j e = absurd (omega arith)
last-is f h (suc k) j e = go (eqb (f k) h) refl (last-is f h k j) e
  where
    go : (b : Bool) → eqb (f k) h ≡ b → (last_of f h k ≡ suc j → f j ≡ h) → cond b (suc k) (last_of f h k) ≡ suc j → f j ≡ h
    go true t later p = let same : k ≡ j = omega arith in ap f (sym same) ∙ eqb-true (f k) h t
    go false t later p = later p

-- and not behind it
pub last-above : (f : ℕ → ℕ) (h k j : ℕ) → last_of f h k ≤ j → j < k → f j ≡ h → ⊥
unfolding last_of
last-above f h zero j l b = absurd (not-suc-le-zero b)
last-above f h (suc k) j l b = go (eqb (f k) h) refl (last-above f h k j) l (dec_lt j k)
  where
    go : (t : Bool) → eqb (f k) h ≡ t → (last_of f h k ≤ j → j < k → f j ≡ h → ⊥) → cond t (suc k) (last_of f h k) ≤ j → Dec (j < k) → f j ≡ h → ⊥
    go true t later p d = absurd (omega arith)
    go false t later p (yes d) = later p d
    go false t later p (no d) = λ e. let same : k ≡ j = omega arith in eqb-false (f k) h t (ap f same ∙ e)

-- it rests on the values before k alone
pub last-same : (f g : ℕ → ℕ) (h k : ℕ) → ((j : ℕ) → j < k → f j ≡ g j) → last_of f h k ≡ last_of g h k
unfolding last_of
last-same f g h zero same = refl
last-same f g h (suc k) same =
    ap₂ (λ v l. cond (eqb v h) (suc k) l) (same k (omega arith)) (last-same f g h k (λ j b. same j (omega arith)))
