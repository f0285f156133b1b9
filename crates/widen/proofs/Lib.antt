pub mod Answers
pub mod Front
pub mod Masks
pub mod Steps
