pub mod Outcomes
pub mod Turns
