pub mod Items
pub mod Moves
