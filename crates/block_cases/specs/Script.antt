-- An item of a script: four bytes with a number of times, one with a number of writes, and so many writes of nine bytes, eight with the byte's
-- number and one with the value. They are made in order, so many times over; an item that is too short has none.
use Rattle.std.specs.Prelude.{◌≡◌, List, ◌++◌, map, ℕ, ◌+◌, ◌*◌, ◌%◌, cond, ltb, length, get_or}
use Rattle.model.specs.Bytes.{number, part}
use Rattle.model.specs.Controller.{Write, last_refusal}
use Rattle.model.specs.Lists.{up_from}
use Rattle.model.specs.Plan.{Plan}
use Rattle.controller.specs.View.{write_of, After}
use Rattle.controller.specs.declared.part.Controller.{Controller}

-- how many writes an item has, and how many are made
abbrev pub item_count : List ℕ → ℕ
item_count item = get_or item 4 0

abbrev pub item_total : List ℕ → ℕ
item_total item = cond (ltb (length item) (5 + 9 * item_count item)) 0 (number (part item 0 4) * item_count item)

-- the k-th one
abbrev pub item_write : List ℕ → ℕ → Write
item_write item k =
    let at = 5 + 9 * (k % item_count item) in
    write_of (number (part item at 8)) (get_or item (at + 8) 0)

-- the first n
abbrev pub first_writes : List ℕ → ℕ → List Write
first_writes item n = map (item_write item) (up_from 0 n)

-- the part after writes, whichever were made before them
pub record Moved (before : Controller) (ws : List Write) (after : Controller) : Type 0 where
  pub more : (P : Plan) (vs : List Write) → After P vs before → After P (vs ++ ws) after

-- and the number of the last one's refusal
pub record Scripted (before : Controller) (ws : List Write) (after : Controller) (n : ℕ) : Type 0 where
  pub part : Moved before ws after
  pub refusal : n ≡ last_refusal ws
