pub mod Extend
pub mod Index
pub mod Keep
pub mod Rows
pub mod Search
pub mod Tables
pub mod Walk
