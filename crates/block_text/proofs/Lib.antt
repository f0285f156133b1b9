pub mod Ahead
pub mod Line
pub mod Parts
pub mod Writing
