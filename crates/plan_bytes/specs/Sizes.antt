-- The bytes of a plan's commands.
use Rattle.std.specs.Prelude.{ℕ}

-- an arc's
abbrev pub arc_size : ℕ
arc_size = 4
