-- Numbers as bytes, and what a write leaves in lent memory.
use Rattle.std.specs.Prelude.{◌≡◌, ◌⊎◌, ℕ, zero, suc, ◌+◌, ◌-◌, ◌*◌, ◌/◌, ◌%◌, ◌^◌, ◌≤◌, ◌<◌, Bool, cond, ltb, ℤ, pos, negsuc, length, get_or, take, drop, replicate}
use mathlib.Core.List.{List, [], ◌∷◌, ◌++◌, foldl}

-- "most significant byte first": the number that the bytes are
unfoldable pub number : List ℕ → ℕ
number bs = foldl (λ n b. n * 256 + b) 0 bs

-- and the k bytes that a number below 256 ^ k is
unfoldable pub bytes : ℕ → ℕ → List ℕ
bytes zero n = []
bytes (suc k) n = bytes k (n / 256) ++ (n % 256 ∷ [])

-- "8, two's complement": the signed number that eight bytes, read as a number, are
unfoldable pub signed : ℕ → ℤ
signed n = cond (ltb n (2 ^ 63)) (pos n) (negsuc (2 ^ 64 - 1 - n))

-- and back
unfoldable pub complement : ℤ → ℕ
complement (pos n) = n
complement (negsuc n) = 2 ^ 64 - 1 - n

-- the k bytes from a place
abbrev pub part : List ℕ → ℕ → ℕ → List ℕ
part bs at k = take k (drop at bs)

-- memory after bytes were written at a place: every other byte is as it was
unfoldable pub overwrite : List ℕ → ℕ → List ℕ → List ℕ
overwrite memory at bs = take at memory ++ bs ++ drop (at + length bs) memory

-- "all zero"
abbrev pub cleared : List ℕ → List ℕ
cleared memory = replicate (length memory) 0

-- "Work memory .. is all zero after each call, save after 11, which touches nothing": where it is enough, 11 isn't due
abbrev pub work_after : Bool → List ℕ → List ℕ
work_after enough before = cond enough (cleared before) before

-- What a function that writes bytes promises: they stand at the place, every other byte is as it was, and the answer is the place after
-- them.
pub record Put (before after : List ℕ) (at : ℕ) (bs : List ℕ) (r : ℕ) : Type 0 where
  pub bytes : after ≡ overwrite before at bs
  pub next : r ≡ at + length bs

-- What scratch memory holds is free: the k bytes from a place on may be any, and every other byte is as it was.
pub record Only (at k : ℕ) (before after : List ℕ) : Type 0 where
  pub long : length after ≡ length before
  pub others : (i : ℕ) → (i < at) ⊎ (at + k ≤ i) → get_or after i 0 ≡ get_or before i 0
