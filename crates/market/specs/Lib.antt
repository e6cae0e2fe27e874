pub mod Codes
pub mod Grounds
pub mod Lots
pub mod Orders
pub mod Prices
pub mod Quotes
pub mod Sizes
