pub mod Work
pub mod Sliding
pub mod Scanned
pub mod Answers
