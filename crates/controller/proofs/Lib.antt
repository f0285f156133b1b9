pub mod Slots
pub mod Writes
pub mod After
pub mod Parts
pub mod Lists
pub mod Reached
pub mod Replays
