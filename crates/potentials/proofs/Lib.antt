pub mod Greatest
pub mod Numbers
pub mod Weights
pub mod Expanded
pub mod Labels
pub mod Nodes
pub mod Best
