pub mod Appends
pub mod Shifts
