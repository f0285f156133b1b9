pub mod Block
pub mod View
