pub mod Forms
pub mod Placed
pub mod Runs
