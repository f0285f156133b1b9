-- Bytes held against those that a case says they begin with.
use Rattle.std.specs.Prelude.{◌≡◌, Bool, true, List, ℕ, length, take}

-- r says whether the bytes begin with the head
abbrev pub Begins : List ℕ → List ℕ → Bool → Type 0
Begins bytes head r =
    (r ≡ true → take (length head) bytes ≡ head) × (take (length head) bytes ≡ head → r ≡ true)
