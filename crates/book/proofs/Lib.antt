pub mod Counts
pub mod Crowd
pub mod Finish
pub mod Firsts
pub mod Once
pub mod Passed
pub mod Tallies
