pub mod Small
pub mod Told
