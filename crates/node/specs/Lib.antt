pub mod Start
pub mod Edition
