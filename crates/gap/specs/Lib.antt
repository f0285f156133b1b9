pub mod Automaton
pub mod Groups
pub mod Promise
