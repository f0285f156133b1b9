-- The most that the line of a check takes.
use Rattle.std.specs.Prelude.{ℕ, ◌+◌, ◌*◌}

-- the digits of a number of 64 bits
abbrev pub number_room : ℕ
number_room = 20

-- five numbers, each with what follows it
abbrev pub line_room : ℕ
line_room = 5 * (number_room + 1)
