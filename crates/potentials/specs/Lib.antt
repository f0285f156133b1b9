pub mod Potentials
pub mod Best
