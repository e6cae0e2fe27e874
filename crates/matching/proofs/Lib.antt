pub mod Backward
pub mod Counts
pub mod Finding
pub mod Going
pub mod Once
pub mod Picks
pub mod Settling
