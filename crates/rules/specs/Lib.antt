pub mod Cases
pub mod Choices
pub mod Examples
pub mod Needs
pub mod Play
