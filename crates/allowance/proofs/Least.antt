-- A certificate's potentials in place, and the smallest one. Assumes nothing.
use Rattle.std.proofs.Common.{arith, ◌≡◌, refl, sym, ap, ◌∙◌, Bool, true, false, cond, List, ℕ, ◌+◌, ◌<◌, length, drop, ℤ, pos}
use Rattle.std.specs.Int.{int_min}
use native.Mathlib.Decide.{dec_lt}
use native.Mathlib.Numerals.{add-one}
use lib.Seq.{drop-cons}
use lib.Signed.{le_z, lt_z}
use Rattle.model.specs.Edition.{long_reads}
use Rattle.model.specs.Check.{potential_at, least}
use Rattle.model.proofs.Tests.{holds, fails}
use Rattle.words.proofs.Signed.{up, dn, le_z-iff, lt_z-iff}
use Rattle.certificate.specs.declared.Parts.{Parts}
use Rattle.certificate.specs.View.{HasPotential, IsRead, head_size, potential_size, potential_in, potentials_in, certificate_of}
use Rattle.certificate.proofs.Runs.{items-length}
use Rattle.certificate.proofs.Placed.{placed}

module _ (bs : List ℕ) (parts : Parts) (is : IsRead long_reads bs parts) where
  pub potentials-length : length (potentials_in bs parts.count) ≡ parts.count
  potentials-length = items-length (potential_in bs) head_size potential_size parts.count

  -- there is a first one
  pub some_potential : 0 < parts.count
  some_potential = omega (arith, potentials-length, (placed long_reads bs (certificate_of long_reads bs parts) is.read).some)

  -- the potential i is there
  pub there : (i : ℕ) → i < parts.count → HasPotential bs i
  there i h = record { certificate = certificate_of long_reads bs parts; read = is.read; below = omega (arith, potentials-length) }

-- the smaller of two
smaller : (z m : ℤ) → int_min z m ≡ cond (le_z z m) z m
smaller z m = by (lt_z m z) (le_z z m) refl refl
  where
    by : (s t : Bool) → lt_z m z ≡ s → le_z z m ≡ t → cond s m z ≡ cond t z m
    by true true e f = absurd (omega (arith, (lt_z-iff m z).0 (holds e), (le_z-iff z m).0 (holds f)))
    by true false e f = refl
    by false true e f = refl
    by false false e f = by_order (dec_lt (up m + dn z) (up z + dn m))
      where
        by_order : Dec (up m + dn z < up z + dn m) → z ≡ m
        by_order (yes h) = absurd (fails e ((lt_z-iff m z).1 h))
        by_order (no h) = absurd (fails f ((le_z-iff z m).1 (omega arith)))

-- with the potential i the smallest is still to be found among those after it
pub least-next : (zs : List ℤ) (i : ℕ) → i < length zs → (m : ℤ) → least (drop (i + 1) zs) (int_min (potential_at zs i) m) ≡ least (drop i zs) m
least-next zs i h m =
    ap (least (drop (i + 1) zs)) (smaller (potential_at zs i) m)
    ∙ ap (λ (k : ℕ). least (drop k zs) (cond (le_z (potential_at zs i) m) (potential_at zs i) m)) (add-one i)
    ∙ sym (ap (λ (ys : List ℤ). least ys m) (drop-cons zs i (pos 0) h))
