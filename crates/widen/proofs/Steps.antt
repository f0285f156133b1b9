-- Steps that stand in bytes, written one after another in another edition.
-- Assumes nothing.
use mathlib.Core.Path.{◌≡◌, refl, sym, ap, ◌∙◌}
use mathlib.Core.List.{List, [], ◌∷◌, ◌++◌}
use Prim.Native.Nat.{ℕ, zero, suc, ◌+◌, ◌*◌, ◌≤◌}
use native.Mathlib.Nat.{mul-zero, mul-suc}
use native.Mathlib.Numerals.{add-one}
use native.Mathlib.Omega.{arith}
use lib.ListN.{length, length-append}
use Rattle.model.specs.Edition.{Edition}
use Rattle.model.specs.Lists.{flat_map}
use Rattle.model.specs.Bytes.{overwrite}
use Rattle.model.specs.Certificate.{Step, step_bytes, step_width}
use Rattle.model.proofs.Lists.{flat_map-append}
use Rattle.words.proofs.Memory.{overwrite-none}
use Rattle.certificate.specs.View.{items, step_in, steps_in}
use Rattle.certificate.proofs.Runs.{items_more}
use Rattle.certificate_bytes.proofs.Pieces.{step-length, overwrite_piece}

-- read in one edition and written in another
module _ (e to : Edition) (bs : List ℕ) (from : ℕ) where
  abbrev pub written : ℕ → List ℕ
  written n = flat_map (step_bytes to) (steps_in e bs from n)

  -- the step j
  abbrev step : ℕ → Step
  step j = step_in e bs (from + step_width e * j)

  pub written-length : (n : ℕ) → length (written n) ≡ step_width to * n
  unfolding items
  written-length zero = sym (mul-zero (step_width to))
  written-length (suc n) =
      omega (
        arith,
        ap (λ ss. length (flat_map (step_bytes to) ss)) (items_more (step_in e bs) from (step_width e) n),
        ap length (flat_map-append (step_bytes to) (steps_in e bs from n) (step n ∷ [])),
        length-append (written n) (step_bytes to (step n) ++ []),
        length-append (step_bytes to (step n)) [],
        step-length to (step n) refl,
        written-length n,
        mul-suc (step_width to) n,
      )

  pub written_none : (m : List ℕ) (at : ℕ) → m ≡ overwrite m at (written 0)
  unfolding items
  written_none m at = sym (overwrite-none m at)

  -- one step more
  pub written-more : (m : List ℕ) (at n : ℕ) → at + step_width to * n + step_width to ≤ length m →
      overwrite (overwrite m at (written n)) (at + step_width to * n) (step_bytes to (step n)) ≡ overwrite m at (written (n + 1))
  written-more m at n fits =
      overwrite_piece (step_bytes to) m at [] (steps_in e bs from n) (step n) (at + step_width to * n)
      (omega (arith, written-length n)) (omega (arith, step-length to (step n) refl))
      ∙ ap (λ ss. overwrite m at (flat_map (step_bytes to) ss)) (sym (items_more (step_in e bs) from (step_width e) n))
      ∙ ap (λ (k : ℕ). overwrite m at (written k)) (sym (add-one n))
