pub mod Automaton
pub mod Answers
pub mod Groups
