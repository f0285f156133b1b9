pub mod Tasks
pub mod Answers
