-- Rust's Option as the one that the definitions use.
use Rattle.std.specs.Prelude as rust
use Rattle.std.specs.Prelude.{None, Some}
use Rattle.std.proofs.Math.Option.{Option, none, some}

abbrev pub option_of : {A : Type 0} → rust.Option A → Option A
option_of None = none
option_of (Some a) = some a
