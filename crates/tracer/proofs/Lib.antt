pub mod Answers
pub mod Slots
