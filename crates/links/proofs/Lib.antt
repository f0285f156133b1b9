pub mod Written
pub mod Climb
pub mod Cleared
pub mod WorkMemory
