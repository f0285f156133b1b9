pub mod Pairs
pub mod Promise
