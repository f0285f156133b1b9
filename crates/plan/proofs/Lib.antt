pub mod Turn
pub mod View
pub mod Arcs
pub mod Widths
pub mod Commands
