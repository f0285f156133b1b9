-- Writes in a list of bytes.
-- Assumes nothing.
use Rattle.std.proofs.Common.{◌≡◌, ℕ, suc, ◌+◌, ◌-◌, ◌%◌, ◌<◌, ◌≤◌, List, [], ◌∷◌, length, get_or, drop, sym, refl, ap, ◌∙◌, arith, length-drop, drop-cons}
use mathlib.Core.List.{foldl}
use Rattle.model.specs.Controller.{Write, refusal_of, writes_in}
use Rattle.controller.specs.View.{write_of}

-- a number without a value is no write
few : (bs : List ℕ) → length bs < 2 → writes_in bs ≡ []
few [] h = refl
few (n ∷ []) h = refl
few (n ∷ v ∷ bs) h = absurd (omega arith)

-- the writes from a place on
module _ (bs : List ℕ) (i : ℕ) where
  pub writes_at : i + 1 < length bs → writes_in (drop i bs) ≡ write_of (get_or bs i 0) (get_or bs (i + 1) 0) ∷ writes_in (drop (i + 2) bs)
  writes_at h =
      let next : suc i ≡ i + 1 = omega arith in
      let after : suc (suc i) ≡ i + 2 = omega arith in
      ap writes_in
      (drop-cons bs i 0 (omega arith)
      ∙ ap (λ (l : List ℕ). get_or bs i 0 ∷ l) (drop-cons bs (suc i) 0 (omega arith))
      ∙ (λ j. get_or bs i 0 ∷ get_or bs (next j) 0 ∷ drop (after j) bs))

  pub writes_end : length bs ≤ i + 1 → writes_in (drop i bs) ≡ []
  writes_end h = few (drop i bs) (omega (arith, length-drop i bs))

-- the refusal of the last one
pub last_none : (bs : List ℕ) → length bs < 2 → 0 ≡ foldl (λ n w. refusal_of w) 0 (writes_in bs)
last_none bs h = ap (λ (ws : List Write). foldl (λ n w. refusal_of w) 0 ws) (sym (few bs h))

-- the place of the last one among so many bytes
abbrev pub last_place : ℕ → ℕ
last_place n = n - n % 2 - 2

pub last-write : (bs : List ℕ) (before : ℕ) → 2 ≤ length bs →
    refusal_of (write_of (get_or bs (last_place (length bs)) 0) (get_or bs (last_place (length bs) + 1) 0)) ≡ foldl (λ n w. refusal_of w) before (writes_in bs)
last-write [] before h = absurd (omega arith)
last-write (n ∷ []) before h = absurd (omega arith)
last-write (n ∷ v ∷ bs) before h = go bs (last-write bs (refusal_of (write_of n v)))
  where
    Last : List ℕ → List ℕ → Type 0
    Last l ms =
        refusal_of (write_of (get_or l (last_place (length l)) 0) (get_or l (last_place (length l) + 1) 0)) ≡ foldl (λ n w. refusal_of w) (refusal_of (write_of n v)) (writes_in ms)

    go : (ms : List ℕ) → (2 ≤ length ms → Last ms ms) → Last (n ∷ v ∷ ms) ms
    go [] later = refl
    go (m ∷ []) later = refl
    go (m ∷ u ∷ ms) later =
        let k : ℕ = length ms in
        let place : last_place (suc (suc (suc (suc k)))) ≡ suc (suc (last_place (suc (suc k)))) = omega arith in
        let next : last_place (suc (suc (suc (suc k)))) + 1 ≡ suc (suc (last_place (suc (suc k)) + 1)) = omega arith in
        (λ i. refusal_of (write_of (get_or (n ∷ v ∷ m ∷ u ∷ ms) (place i) 0) (get_or (n ∷ v ∷ m ∷ u ∷ ms) (next i) 0))) ∙ later (omega arith)
