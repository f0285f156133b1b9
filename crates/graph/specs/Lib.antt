pub mod View
pub mod Outcomes
pub mod Offers
pub mod Choice
pub mod Label
pub mod Edge
