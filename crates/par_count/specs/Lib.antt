pub mod Ranges
pub mod Shares
