pub mod Linked
pub mod Steps
