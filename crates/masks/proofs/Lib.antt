pub mod Groups
pub mod Clear
pub mod Runs
