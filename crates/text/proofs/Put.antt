-- What is put lies within the memory that it is put into.
-- Assumes nothing.
use mathlib.Core.Path.{◌≡◌, sym, ap}
use mathlib.Core.List.{List, ◌++◌}
use Prim.Native.Nat.{ℕ, ◌+◌, ◌≤◌}
use native.Mathlib.Omega.{arith}
use lib.ListN.{length, drop, length-append}
use lib.Seq.{length-take-le}
use Rattle.io.specs.Counts.{IsPrefixLen}
use Rattle.model.specs.Bytes.{overwrite, Put}

-- so many bytes of a list
pub counted : (r : ℕ) (l : List ℕ) → r ≤ length l → IsPrefixLen r l
counted r l h = (h, sym (length-take-le r l h))

-- what is written from the first byte on stands inside
pub put-inside : (m n bs : List ℕ) (r : ℕ) → Put m n 0 bs r → IsPrefixLen r n
unfolding overwrite
put-inside m n bs r p =
    let rest = drop (0 + length bs) m in
    let size : length n ≡ length (bs ++ rest) = ap length p.bytes in
    counted r n (omega (arith, p.next, size, length-append bs rest))
