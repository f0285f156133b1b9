pub mod Search
pub mod Lightest
