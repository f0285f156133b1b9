-- Room for the table's text.
use Rattle.std.specs.Prelude.{ℕ}

abbrev pub mask_room : ℕ
mask_room = 4096
