pub mod Rows
pub mod Nodes
pub mod Growing
pub mod Labels
pub mod Held
pub mod Whole
pub mod Answer
