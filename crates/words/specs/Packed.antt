-- Numbers of two bytes packed in one number.
use Rattle.std.specs.Prelude.{List, [], ◌∷◌, ℕ, zero, suc, ◌/◌, ◌%◌, ◌^◌}
use Rattle.model.specs.Bytes.{number, bytes}
use Rattle.model.specs.Limits.{max_tasks}
use Rattle.model.specs.Lists.{flat_map}

-- a number of two bytes is below it
abbrev pub field_base : ℕ
field_base = 65536

-- the number whose bytes are those of the given numbers, two each, the first one's the most significant
unfoldable pub packed : List ℕ → ℕ
packed ns = number (flat_map (bytes 2) ns)

-- and back: the k numbers packed in n
unfoldable pub fields : ℕ → ℕ → List ℕ
fields zero n = []
fields (suc k) n = n / field_base ^ k % field_base ∷ fields k n

-- one for each task
abbrev pub unpacked : ℕ → List ℕ
unpacked n = fields max_tasks n
