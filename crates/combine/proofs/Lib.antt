pub mod Numbers
pub mod Leads
pub mod Growing
pub mod Whole
pub mod Answers
