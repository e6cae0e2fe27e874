pub mod Grounds
pub mod Requests
pub mod Sessions
pub mod Steps
