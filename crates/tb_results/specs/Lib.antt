pub mod Biddings
pub mod Outcomes
