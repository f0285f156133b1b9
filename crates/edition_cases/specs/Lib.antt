pub mod Kinds
pub mod Widened
