pub mod Choice
pub mod Meets
pub mod Settle
pub mod Sweep
pub mod Tables
