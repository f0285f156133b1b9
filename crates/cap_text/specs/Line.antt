-- The line of an answer.
use Rattle.std.specs.Prelude.{ℕ}

-- the most bytes that it takes, with a number of 64 bits
abbrev pub line_room : ℕ
line_room = 29
