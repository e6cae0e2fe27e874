pub mod Input
pub mod Prints
pub mod Runs
