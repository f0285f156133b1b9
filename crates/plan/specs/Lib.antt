pub mod Tasks
pub mod View
