-- Laws of what functions that write bytes promise.
-- Assumes nothing.
use mathlib.Core.Path.{◌≡◌, refl, sym, ap₂, subst, ◌∙◌}
use mathlib.Core.List.{List, [], ◌∷◌, ◌++◌}
use Prim.Native.Nat.{ℕ, ◌+◌, ◌≤◌, ◌<◌}
use native.Mathlib.Nat.{add-zero}
use native.Mathlib.Omega.{arith}
use lib.ListN.{length, set, length-append}
use Rattle.model.specs.Bytes.{overwrite, Put}
use Rattle.words.proofs.Memory.{overwrite-none, overwrite-one, overwrite_join}

pub put-none : (m : List ℕ) (at : ℕ) → Put m m at [] at
put-none m at = record { bytes = sym (overwrite-none m at); next = sym (add-zero at) }

pub put_byte : (m : List ℕ) (at b : ℕ) → at < length m → Put m (set m at b) at (b ∷ []) (at + 1)
put_byte m at b h = record { bytes = overwrite-one m at b h; next = refl }

-- bytes put after bytes are both, one after the other
pub put_join : (m m₁ m₂ : List ℕ) (at r r₂ : ℕ) (xs ys : List ℕ) → at + length xs + length ys ≤ length m →
    Put m m₁ at xs r → Put m₁ m₂ r ys r₂ → Put m m₂ at (xs ++ ys) r₂
put_join m m₁ m₂ at r r₂ xs ys fits a b = record {
  bytes = b.bytes ∙ ap₂ (λ (l : List ℕ) (i : ℕ). overwrite l i ys) a.bytes a.next ∙ overwrite_join m at xs ys fits;
  next = b.next ∙ omega (arith, a.next, length-append xs ys);
}

-- the same, by the place after both
pub put_then : {m n l xs ys : List ℕ} {at end last : ℕ} → Put m n at xs end → Put n l end ys last → last ≤ length m → Put m l at (xs ++ ys) last
put_then {m} {n} {l} {xs} {ys} {at} {end} {last} h g fits = put_join m n l at end last xs ys (omega (arith, h.next, g.next)) h g

-- bytes that are equal are put alike
pub put_as : {m n xs ys : List ℕ} {at r : ℕ} → xs ≡ ys → Put m n at xs r → Put m n at ys r
put_as {m} {n} {at = at} {r = r} e p = subst (λ (l : List ℕ). Put m n at l r) e p
